-- The members that `generate` makes, step by step, and the wires over them.
use Rattle.std.proofs.Common.{◌≡◌, ◌∙◌, ap, sym, subst, refl, ℕ, ◌+◌, ◌<◌, ◌≤◌, ◌^◌, Bool, true, false, not, ◌&&◌, cond, nat_lt, nat_le, List, [], ◌∷◌, ◌++◌, map, Option, Some, None, Ok, length, append-nil, arith}
use Rattle.std.specs.Prelude.{All, ◌==◌, position}
use Rattle.std.specs.Fmt.{decimal}
use Rattle.std.specs.List.{flat_map, list_all, position_or_len, range_with_len, sum_by}
use Rattle.std.specs.Str.Parse.{AllDigits}
use Rattle.std.proofs.lemmas.Bool.{and_parts}
use Rattle.std.proofs.lemmas.Bool.Decides.{nat_tests}
use Rattle.std.proofs.lemmas.Fmt.{decimal_is_IsNumeral}
use Rattle.std.proofs.lemmas.Str.Parse.{digit_from_value}
use Rattle.std.proofs.lemmas.Grind.{flat_map-append}
use Rattle.std.proofs.lemmas.List.{map-id}
use Rattle.std.proofs.lemmas.List.Concat.{length-flat_map}
use Rattle.std.proofs.lemmas.List.Elements.{All-map, All-weaker}
use Rattle.std.proofs.lemmas.List.FromFn.{map-range_with_len_more}
use Rattle.fx_terms.specs.Iris.{is_forbidden, iri_after, read_iri}
use Rattle.fx_terms.specs.declared.triples.Triple.{Triple}
use Rattle.fx_member.specs.GraphWires.{graph_in, graph_of}
use Rattle.fx_member.specs.declared.graph_wires.GraphWire.{GraphWire}
use Rattle.fx_traffic.specs.Gains.{Tell, TellAll}
use Rattle.fx_wire.specs.Exchanges.{Seen}
use Rattle.fx_algebra.specs.Graphs.{union}
use Rattle.fx_commands.specs.Counting.{first_address, generated_members, generated_rows, second_address, third_address}
use Rattle.fx_commands.specs.Generator.{lines_of, member_graph, member_graphs, person, summary}
use Rattle.fx_commands.specs.GeneratorSteps.{IsOver, at_addresses, graphs_of}

-- ---- texts

not_below : (n : ℕ) → nat_lt n n ≡ false
not_below n = grind (arith, nat_tests)

-- where no byte of a text is forbidden, none is found
all_pass : (text : List ℕ) → list_all (λ b. not (is_forbidden b)) text ≡ true → position_or_len is_forbidden text ≡ length text
all_pass [] h = refl
all_pass (b ∷ bs) h =
    let parts = and_parts (not (is_forbidden b)) (list_all (λ c. not (is_forbidden c)) bs) h in
    let rest : position_or_len is_forbidden bs ≡ length bs = all_pass bs parts.1 in
    ap (λ (v : Bool). cond v (1 + position_or_len is_forbidden bs) 0) parts.0 ∙ omega (arith, rest)

none_found : (text : List ℕ) → list_all (λ b. not (is_forbidden b)) text ≡ true → position is_forbidden text ≡ None
none_found text h =
    ap (λ (n : ℕ). cond {A = Option ℕ} (nat_lt n (length text)) (Some n) None) (all_pass text h) ∙ ap (λ (v : Bool). cond {A = Option ℕ} v (Some (length text)) None) (not_below (length text))

above : (c k : ℕ) → k < c → (c == k) ≡ false
above c k h = grind (arith, nat_tests)

below : (c k : ℕ) → c < k → (c == k) ≡ false
below c k h = grind (arith, nat_tests)

past : (c k : ℕ) → k < c → nat_le c k ≡ false
past c k h = grind (arith, nat_tests)

digit_allowed : (c : ℕ) → 48 ≤ c → c ≤ 57 → is_forbidden c ≡ false
digit_allowed c low high =
    rw (past c 32 (omega arith), below c 60 (omega arith), below c 62 (omega arith), above c 34 (omega arith), below c 123 (omega arith), below c 125 (omega arith), below c 124 (omega arith), below c 94 (omega arith), below c 96 (omega arith), below c 92 (omega arith)) refl

digits_allowed : (ds : List ℕ) → AllDigits 10 ds → list_all (λ b. not (is_forbidden b)) ds ≡ true
digits_allowed [] d = refl
digits_allowed (c ∷ cs) d =
    let v = digit_from_value c d.0 in
    ap (λ (b : Bool). not b && list_all (λ e. not (is_forbidden e)) cs) (digit_allowed c (omega (arith, v)) (omega (arith, v))) ∙ digits_allowed cs d.1

-- a person has an IRI
pub person_read : (n : ℕ) → n < 2 ^ 64 → read_iri (person n) ≡ Ok (person n)
person_read n low = ap (iri_after (person n)) (none_found (person n) (digits_allowed (decimal n) (decimal_is_IsNumeral n low).0.1))

-- ---- triples

one_more : (n : ℕ) → range_with_len 0 (n + 1) ≡ range_with_len 0 n ++ n ∷ []
one_more n =
    sym (map-id (range_with_len 0 (n + 1)))
    ∙ map-range_with_len_more (λ (i : ℕ). i) 0 n n (omega arith)
    ∙ ap (λ (l : List ℕ). l ++ n ∷ []) (map-id (range_with_len 0 n))

-- what the next number has stands behind what those before it have
pub held_more : (f : ℕ → List Triple) (n : ℕ) → flat_map f (range_with_len 0 (n + 1)) ≡ flat_map f (range_with_len 0 n) ++ f n
held_more f n = ap (flat_map f) (one_more n) ∙ flat_map-append f (range_with_len 0 n) (n ∷ []) ∙ ap (λ (l : List Triple). flat_map f (range_with_len 0 n) ++ l) (append-nil (f n))

pub all_counted : (graphs : List (List Triple)) → length (flat_map (λ (graph : List Triple). graph) graphs) ≡ sum_by (λ (graph : List Triple). length graph) graphs
all_counted graphs = length-flat_map (λ (graph : List Triple). graph) graphs

pub summary_is : (size triples held rows : ℕ) (members : List (List ℕ × List Triple)) → members ≡ at_addresses (member_graph size 0) (member_graph size 1) (member_graph size 2) → held ≡ sum_by (λ (graph : List Triple). length graph) (graphs_of members) → triples ≡ length (union (graphs_of members))
    → rows ≡ length (generated_rows (union (member_graphs size))) → lines_of 3 triples held rows ≡ summary size
summary_is size triples held rows members is h t r =
    let graphs = member_graphs size in
    ap (λ (n : ℕ). lines_of 3 n held rows) (t ∙ ap (λ (ms : List (List ℕ × List Triple)). length (union (graphs_of ms))) is)
    ∙ ap (λ (n : ℕ). lines_of 3 (length (union graphs)) n rows) (h ∙ ap (λ (ms : List (List ℕ × List Triple)). sum_by (λ (graph : List Triple). length graph) (graphs_of ms)) is)
    ∙ ap (λ (n : ℕ). lines_of 3 (length (union graphs)) (sum_by (λ (graph : List Triple). length graph) graphs) n) r

-- ---- wires

told_there : (see : GraphWire → Seen) → ((w : GraphWire) (address : List ℕ) → (see w).graph address ≡ graph_in w address) → (members : List (List ℕ × List Triple)) (address : List ℕ) (graph : List Triple) → graph_of members address ≡ Some graph
    → (wires : List GraphWire) → All (IsOver members) wires → Tell (map see wires) address graph
told_there see same members address graph is wires h =
    All-map (λ (w : Seen). w.graph address ≡ Some graph) see wires
    (All-weaker (IsOver members) (λ (w : GraphWire). (see w).graph address ≡ Some graph) (λ w over. same w address ∙ over address ∙ is) wires h)

-- wires over the members tell the graphs of the three addresses
pub all_told : (see : GraphWire → Seen) → ((w : GraphWire) (address : List ℕ) → (see w).graph address ≡ graph_in w address) → (members : List (List ℕ × List Triple)) (a b c : List Triple) → members ≡ at_addresses a b c
    → (wires : List GraphWire) → All (IsOver members) wires → TellAll (map see wires) generated_members (a ∷ b ∷ c ∷ [])
all_told see same members a b c is wires h =
    let over = subst (λ (l : List (List ℕ × List Triple)). All (IsOver l) wires) is h in (
      told_there see same (at_addresses a b c) first_address a refl wires over,
      (told_there see same (at_addresses a b c) second_address b refl wires over, (told_there see same (at_addresses a b c) third_address c refl wires over, tt)),
    )
