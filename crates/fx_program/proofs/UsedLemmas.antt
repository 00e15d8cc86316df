-- What a run leaves of all wires, where it uses some of them.
use Rattle.std.proofs.Common.{◌≡◌, ◌∙◌, ap, sym, subst, ℕ, ◌+◌, ◌≤◌, Bool, List, [], ◌∷◌, ◌++◌, map, take, drop, length, min, arith}
use Rattle.std.proofs.lemmas.List.{drop_min, map-append, take-append-drop, take_min}
use Rattle.fx_traffic.specs.Gains.{AreAfter, WiresSeen, faults_at, wires_seen}
use Rattle.fx_traffic.proofs.GainLemmas.{gain_laws}
use Rattle.fx_wire.specs.Exchanges.{Seen}
use Rattle.fx_pool.proofs.WireLemmas.{after_itself}
use Rattle.fx_local.specs.Files.{FileRead}
use Rattle.fx_commands.specs.Explain.{CountsLeft}
use Rattle.fx_commands.specs.Query.{CountsDown}
use Rattle.fx_program.specs.Runs.{OnUsed}
use Rattle.fx_rounds.specs.LeftOut.{left_in}
use Rattle.fx_rounds.specs.Licences.{downs_failed, lefts_failed}
use Rattle.fx_local.specs.Sinks.{SinkWritten}

-- none was used
pub on_same : {W : Type 0} (see : W → Seen) (tells alone : Bool) (R : WiresSeen → Type 0) (most : ℕ) (wires : List W) → R (wires_seen tells alone see (take most wires) (take most wires)) → OnUsed most wires wires (λ used later. R (wires_seen tells alone see used later))
on_same see tells alone R most wires h = (take most wires, sym (take-append-drop most wires), h)

-- some were used, from the first on
pub on_used : {W : Type 0} (see : W → Seen) (tells alone : Bool) (R : WiresSeen → Type 0) (most n mid : ℕ) (wires front back later : List W) → most ≡ n → mid ≡ min n (length wires) → front ≡ take mid wires → back ≡ drop mid wires → R (wires_seen tells alone see front later)
    → OnUsed most wires (later ++ back) (λ used later. R (wires_seen tells alone see used later))
on_used {W} see tells alone R most n mid wires front back later same is here behind h = subst (λ (m : ℕ). OnUsed m wires (later ++ back) (λ used later. R (wires_seen tells alone see used later))) (sym same) (
  later,
  ap (λ (b : List W). later ++ b) (behind ∙ ap (λ (m : ℕ). drop m wires) is ∙ drop_min n wires),
  subst (λ (f : List W). R (wires_seen tells alone see f later)) (here ∙ ap (λ (m : ℕ). take m wires) is ∙ take_min n wires) h,
)

-- what is so of the wires that were used
pub on_taken : {W : Type 0} (see : W → Seen) (P : List Seen → Type 0) (most n mid : ℕ) (wires front : List W) → most ≡ n → mid ≡ min n (length wires) → front ≡ take mid wires → P (map see front) → P (map see (take most wires))
on_taken {W} see P most n mid wires front same is here h =
    subst (λ (m : ℕ). P (map see (take m wires))) (sym same) (subst (λ (f : List W). P (map see f)) (here ∙ ap (λ (m : ℕ). take m wires) is ∙ take_min n wires) h)

after_beside : (a b c d : List Seen) → AreAfter a b → AreAfter c d → AreAfter (a ++ c) (b ++ d)
after_beside [] [] c d h k = k
after_beside [] (y ∷ b) c d h k = absurd h
after_beside (x ∷ a) [] c d h k = absurd h
after_beside (x ∷ a) (y ∷ b) c d h k = (h.0, after_beside a b c d h.1 k)

-- the wires behind those that were used are as they were
pub used_after : {W : Type 0} (see : W → Seen) (wires front back later : List W) → wires ≡ front ++ back → AreAfter (map see front) (map see later) → AreAfter (map see wires) (map see (later ++ back))
used_after {W} see wires front back later e h =
    subst (λ (l : List W). AreAfter (map see l) (map see (later ++ back))) (sym e)
    (subst (λ (l : List Seen). AreAfter l (map see (later ++ back))) (sym (map-append see front back))
    (subst (λ (l : List Seen). AreAfter (map see front ++ map see back) l) (sym (map-append see later back))
    (after_beside (map see front) (map see later) (map see back) (map see back) h (after_itself (map see back)))))

all_at : {W : Type 0} (see : W → Seen) (front back : List W) (address : List ℕ) → faults_at (map see (front ++ back)) address ≡ faults_at (map see front) address + faults_at (map see back) address
all_at see front back address = ap (λ (l : List Seen). faults_at l address) (map-append see front back) ∙ gain_laws.add_up (map see front) (map see back) address

-- and so are their counts: all wires count as many more as those that were used
pub used_counts : {W : Type 0} (see : W → Seen) (wires front back later : List W) (more : List ℕ → ℕ) → wires ≡ front ++ back → ((address : List ℕ) → faults_at (map see later) address ≡ faults_at (map see front) address + more address)
    → (address : List ℕ) → faults_at (map see (later ++ back)) address ≡ faults_at (map see wires) address + more address
used_counts {W} see wires front back later more e h address =
    let all : faults_at (map see (later ++ back)) address ≡ faults_at (map see later) address + faults_at (map see back) address = all_at see later back address in
    let before : faults_at (map see wires) address ≡ faults_at (map see front) address + faults_at (map see back) address = ap (λ (l : List W). faults_at (map see l) address) e ∙ all_at see front back address in
    let own : faults_at (map see later) address ≡ faults_at (map see front) address + more address = h address in
    omega (arith, all, before, own)

-- or as many
pub used_counts_none : {W : Type 0} (see : W → Seen) (wires front back later : List W) → wires ≡ front ++ back → ((address : List ℕ) → faults_at (map see later) address ≡ faults_at (map see front) address)
    → (address : List ℕ) → faults_at (map see (later ++ back)) address ≡ faults_at (map see wires) address
used_counts_none {W} see wires front back later e h address =
    let all : faults_at (map see (later ++ back)) address ≡ faults_at (map see wires) address + 0 = used_counts see wires front back later (λ a. 0) e (λ a. let same : faults_at (map see later) a ≡ faults_at (map see front) a = h a in omega (arith, same)) address in
    omega (arith, all)

-- or at least as many more
pub used_counts_least : {W : Type 0} (see : W → Seen) (wires front back later : List W) (more : List ℕ → ℕ) → wires ≡ front ++ back → ((address : List ℕ) → faults_at (map see front) address + more address ≤ faults_at (map see later) address)
    → (address : List ℕ) → faults_at (map see wires) address + more address ≤ faults_at (map see (later ++ back)) address
used_counts_least {W} see wires front back later more e h address =
    let all : faults_at (map see (later ++ back)) address ≡ faults_at (map see later) address + faults_at (map see back) address = all_at see later back address in
    let before : faults_at (map see wires) address ≡ faults_at (map see front) address + faults_at (map see back) address = ap (λ (l : List W). faults_at (map see l) address) e ∙ all_at see front back address in
    let own : faults_at (map see front) address + more address ≤ faults_at (map see later) address = h address in
    omega (arith, all, before, own)

-- with who is left out and what is down
pub used_down : {W : Type 0} (see : W → Seen) (r q : FileRead) (err : SinkWritten) (wires front back later : List W) → wires ≡ front ++ back → CountsDown r q (map see front) (map see later) err → CountsDown r q (map see wires) (map see (later ++ back)) err
used_down see r q err wires front back later e h = record {
  endpoints = h.endpoints;
  registered = h.registered;
  asked = h.asked;
  accepted = h.accepted;
  counts = record {
    rounds = h.counts.rounds;
    noted = h.counts.noted;
    kept = h.counts.kept;
    left_out = h.counts.left_out;
    leave = h.counts.leave;
    down = h.counts.down;
    lines = h.counts.lines;
    counted = used_counts_least see wires front back later (λ address. lefts_failed h.endpoints address (left_in h.counts.rounds) + downs_failed address h.counts.noted) e h.counts.counted;
    exact = λ none. used_counts see wires front back later (λ address. downs_failed address h.counts.noted) e (h.counts.exact none);
  };
}

-- with who is left out of a plan
pub used_left : {W : Type 0} (see : W → Seen) (r : FileRead) (err : SinkWritten) (wires front back later : List W) → wires ≡ front ++ back → CountsLeft r (map see front) (map see later) err → CountsLeft r (map see wires) (map see (later ++ back)) err
used_left see r err wires front back later e h = record {
  endpoints = h.endpoints;
  registered = h.registered;
  counts = record {
    rounds = h.counts.rounds;
    kept = h.counts.kept;
    left_out = h.counts.left_out;
    leave = h.counts.leave;
    lines = h.counts.lines;
    counted = used_counts_least see wires front back later (λ address. lefts_failed h.endpoints address (left_in h.counts.rounds)) e h.counts.counted;
    exact = λ none. used_counts_none see wires front back later e (h.counts.exact none);
  };
}
