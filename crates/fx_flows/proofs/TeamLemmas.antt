-- What asking over several wires side by side leaves of these.
use Rattle.std.proofs.Common.{◌≡◌, ◌∙◌, ap, sym, subst, refl, ℕ, ◌+◌, ◌<◌, ◌≤◌, Bool, List, [], ◌∷◌, ◌++◌, map, Option, None, Some, IfSome, IfOk, IfErr, IsTrue, Result, Ok, Err, All, Contains, length, get_or, slice_set, arith, append-nil, length-append, zero-le, IsPermutation}
use Rattle.std.specs.List.{flat_map}
use Rattle.std.specs.declared.alloc.Global.{Global}
use Rattle.std.specs.declared.vec.Vec.{Vec}
use Rattle.std.proofs.lemmas.Grind.{flat_map-append}
use Rattle.std.proofs.lemmas.List.{map-append}
use Rattle.std.proofs.lemmas.List.Elements.{All-append, All-from_recursion, All-nil, All-weaker, recursion_from_All}
use Rattle.std.proofs.lemmas.List.Sorted.{IsPermutation-refl}
use Rattle.std.proofs.lemmas.List.Sums.{sum_by-cons}
use Rattle.fx_terms.specs.Graphs.{IsGraph}
use Rattle.fx_wire.specs.Honest.{IsHonest}
use Rattle.fx_terms.specs.declared.triples.Triple.{Triple}
use Rattle.fx_outside.specs.Endpoints.{EndpointParts}
use Rattle.fx_algebra.specs.Graphs.{union}
use Rattle.fx_algebra.specs.Units.{graph_of, step}
use Rattle.fx_algebra.specs.declared.units.Row.{Row}
use Rattle.fx_spelling.specs.Units.{IsSound}
use Rattle.fx_bound.specs.Answers.{numbers}
use Rattle.fx_bound.specs.Parts.{Parts}
use Rattle.fx_founds.specs.declared.founds.Found.{Found}
use Rattle.fx_traffic.specs.Batches.{member_sent, unit_sent}
use Rattle.fx_traffic.specs.Gains.{AreAfter, HaveGained, Tell, TellOf, faults_at}
use Rattle.fx_traffic.specs.Sent.{Sent, Sends}
use Rattle.fx_traffic.proofs.GainLemmas.{gain_laws}
use Rattle.fx_traffic.proofs.SentLemmas.{sent_laws}
use Rattle.fx_wire.specs.Exchanges.{Exchange, Seen}
use Rattle.fx_flows.specs.Flows.{AreTold, AreToldOf, AskedBatch, AskedMembers, IsBatchCause, IsCause, IsMemberCause, HasMemberCause, IsReadFor, IsShort, lists_in, rows_in}
use Rattle.fx_flows.specs.Teams.{AreListsOfBoth, BatchAsked, HasAskedCause, IsAskedCause, MembersAsked, OverOneWire}
use Rattle.fx_flows.specs.declared.flows.FlowError.{FlowError}
use Rattle.fx_flows.specs.declared.flows.FlowError.TheVariants as flow
use Rattle.fx_pool.specs.Posting.{IsHonestAt}
use Rattle.fx_pool.specs.Runs.{IsHonestOver}
use Rattle.fx_pool.proofs.BesideLemmas.{after_beside, back_all, front_all}
use Rattle.fx_pool.proofs.WireLemmas.{after_itself, honest_over}
use Rattle.fx_flows.proofs.FlowLemmas.{behind, in_front, told_back, told_fewer, told_front}

-- ---- causes, of some of the wires, members and exchanges, are causes of all of them

module _ (s t u v : List Seen) (es : List EndpointParts) (p : Parts) (members all : List ℕ) (xs ys : List Exchange)
    (rises : (address : List ℕ) → faults_at s address < faults_at t address → faults_at u address < faults_at v address)
    (tells : (address : List ℕ) (g : List Triple) → Tell u address g → Tell s address g)
    (wider : (at : ℕ) → Contains members at → Contains all at)
    (exchanges : (x : Exchange) → Contains xs x → Contains ys x) where
  its_cause : (e : EndpointParts) (why : FlowError) → IsCause (faults_at s e.iri < faults_at t e.iri) (Tell s e.iri) e p xs why → IsCause (faults_at u e.iri < faults_at v e.iri) (Tell u e.iri) e p ys why
  its_cause e (flow.Member at) k = rises e.iri k
  its_cause e (flow.BadReply at bad) k = record {
    of_kind = k.of_kind;
    text = k.text;
    of_batch = k.of_batch;
    posts = k.posts;
    exchanged_so = exchanges _ k.exchanged_so;
    fault = k.fault;
    long = λ g told. k.long g (tells e.iri g told);
  }
  its_cause e (flow.RequestTooLong at size) k = k
  its_cause e flow.Memory k = tt

  pub asked_wider : (why : FlowError) → IsAskedCause s t es p members xs why → IsAskedCause u v es p all ys why
  asked_wider why k = record { at = k.at; member = wider k.at k.member; endpoint = k.endpoint; found = k.found; named = k.named; cause = its_cause k.endpoint why k.cause }

  pub has_asked_wider : (why : FlowError) → HasAskedCause s t es p members xs why → HasAskedCause u v es p all ys why
  has_asked_wider (flow.Member at) k = asked_wider (flow.Member at) k
  has_asked_wider (flow.BadReply at bad) k = asked_wider (flow.BadReply at bad) k
  has_asked_wider (flow.RequestTooLong at size) k = asked_wider (flow.RequestTooLong at size) k
  has_asked_wider flow.Memory k = tt

-- ---- the first of several wires

module _ (tells alone : Bool) (w t : Seen) (others : List Seen) (es : List EndpointParts) (p : Parts) (members : List ℕ) where
  first_tells : (address : List ℕ) (g : List Triple) → Tell (w ∷ others) address g → w.graph address ≡ Some g
  first_tells address g told = (recursion_from_All (λ (s : Seen). s.graph address ≡ Some g) (w ∷ others) told).0

  first_told : (graphs : List (List Triple)) → TellOf (w ∷ others) es graphs (Contains members) → AreTold w.graph es graphs (Contains members)
  first_told graphs told = λ at e of found. first_tells e.iri (graph_of graphs at) (told at e of found)

  counts : (first : Seen) (address : List ℕ) → faults_at (first ∷ others) address ≡ first.faults address + faults_at others address
  counts first address = sum_by-cons (λ (s : Seen). s.faults address) first others

  over : (e : EndpointParts) (xs : List Exchange) (why : FlowError) → IsBatchCause w t e p xs why → IsCause (faults_at (w ∷ others) e.iri < faults_at (t ∷ others) e.iri) (Tell (w ∷ others) e.iri) e p xs why
  over e xs (flow.Member at) k = let rose : w.faults e.iri < t.faults e.iri = k in omega (arith, rose, counts w e.iri, counts t e.iri)
  over e xs (flow.BadReply at bad) k = record {
    of_kind = k.of_kind;
    text = k.text;
    of_batch = k.of_batch;
    posts = k.posts;
    exchanged_so = k.exchanged_so;
    fault = k.fault;
    long = λ g told. k.long g (first_tells e.iri g told);
  }
  over e xs (flow.RequestTooLong at size) k = k
  over e xs flow.Memory k = tt

  its : (xs : List Exchange) (why : FlowError) → IsMemberCause w t es p members xs why → IsAskedCause (w ∷ others) (t ∷ others) es p members xs why
  its xs why k = record { at = k.at; member = k.member; endpoint = k.endpoint; found = k.found; named = k.named; cause = over k.endpoint xs why k.cause }

  first_cause : (xs : List Exchange) (why : FlowError) → HasMemberCause w t es p members xs why → HasAskedCause (w ∷ others) (t ∷ others) es p members xs why
  first_cause xs (flow.Member at) k = its xs (flow.Member at) k
  first_cause xs (flow.BadReply at bad) k = its xs (flow.BadReply at bad) k
  first_cause xs (flow.RequestTooLong at size) k = its xs (flow.RequestTooLong at size) k
  first_cause xs flow.Memory k = tt

  pub first_members : (r : Result (List (List Found)) FlowError) → w.tells_log ≡ tells → AskedMembers alone w t es p members r → MembersAsked tells alone (w ∷ others) (t ∷ others) es p members r
  first_members r same h = record {
    exchanges = h.exchanges;
    gained = λ told. (h.exchanges, [], sym (append-nil h.exchanges), h.passed.logged (subst IsTrue (sym same) told), gain_laws.nothing others);
    honest = All-from_recursion (IsHonestOver (w ∷ others)) h.exchanges (honest_over w others h.exchanges (recursion_from_All (IsHonestAt w.graph) h.exchanges h.passed.honest));
    after_all = (record { logged = λ told. (h.exchanges, h.passed.logged told); same = h.passed.same; kept = h.passed.kept }, after_itself others);
    failed = h.failed;
    few = (let one : h.failed ≤ 1 = h.once in omega (arith, one));
    unfailed = h.unfailed;
    counted = λ is address. let few : t.faults address ≤ w.faults address + h.failed = h.passed.counted is address in omega (arith, few, counts w address, counts t address);
    left = h.left;
    sent = h.sent;
    numbered = h.numbered;
    whole = h.whole;
    short = h.short;
    faultless = h.faultless;
    read = read r h.read;
    cause = cause r h.cause;
  }
    where
      read : (o : Result (List (List Found)) FlowError) → IfOk o (λ lists. (graphs : List (List Triple)) → AreTold w.graph es graphs (Contains members) → AreToldOf graphs p members lists)
          → IfOk o (λ lists. (graphs : List (List Triple)) → TellOf (w ∷ others) es graphs (Contains members) → AreToldOf graphs p members lists)
      read (Ok lists) k = λ graphs told. k graphs (first_told graphs told)
      read (Err why) k = tt

      cause : (o : Result (List (List Found)) FlowError) → IfErr o (HasMemberCause w t es p members h.exchanges) → IfErr o (HasAskedCause (w ∷ others) (t ∷ others) es p members h.exchanges)
      cause (Ok lists) k = tt
      cause (Err why) k = first_cause h.exchanges why k

-- the first of the wires was asked over
pub first_asked : {W : Type 0} (see : W → Seen) (tells alone : Bool) (wires : List W) (x new : W) (es : List EndpointParts) (p : Parts) (members : List ℕ) (r : Result (List (List Found)) FlowError)
    → ((w : W) → (see w).tells_log ≡ tells) → 0 < length wires → AskedMembers alone (see (get_or wires 0 x)) (see new) es p members r
    → MembersAsked tells alone (map see wires) (map see (slice_set wires 0 new)) es p members r
first_asked see tells alone [] x new es p members r same some h = absurd (omega (arith, some))
first_asked see tells alone (w ∷ others) x new es p members r same some h = first_members tells alone (see w) (see new) (map see others) es p members r (same w) h

-- ---- two halves of the wires and of the members

read_both : (graphs : List (List Triple)) (p : Parts) (members more : List ℕ) (lists others : List (List Found)) → AreToldOf graphs p members lists → AreToldOf graphs p more others → AreToldOf graphs p (members ++ more) (lists ++ others)
read_both graphs p [] more [] others h k = k
read_both graphs p [] more (l ∷ lists) others h k = absurd h
read_both graphs p (m ∷ members) more [] others h k = absurd h
read_both graphs p (m ∷ members) more (l ∷ lists) others h k = (h.0, read_both graphs p members more lists others h.1 k)

abbrev AreNumbered : Parts → List (List Found) → Type 0
AreNumbered p lists = All (λ list. All (λ (f : Found). Contains (numbers p) f.branch) list) lists

abbrev AreRead : List EndpointParts → Parts → List Seen → List ℕ → List (List Found) → Type 0
AreRead es p wires members lists = (graphs : List (List Triple)) → TellOf wires es graphs (Contains members) → AreToldOf graphs p members lists

abbrev Lists : Type 0
Lists = Vec (List Found) Global

module _ (tells alone : Bool) (es : List EndpointParts) (p : Parts) (s t u v : List Seen) (here there : List ℕ) where
  told_here : (graphs : List (List Triple)) → TellOf (s ++ u) es graphs (Contains (here ++ there)) → TellOf s es graphs (Contains here)
  told_here graphs told = told_fewer s es graphs (Contains (here ++ there)) (Contains here) (λ at m. in_front here there at m) (told_front s u es graphs (Contains (here ++ there)) told)

  told_there : (graphs : List (List Triple)) → TellOf (s ++ u) es graphs (Contains (here ++ there)) → TellOf u es graphs (Contains there)
  told_there graphs told = told_fewer u es graphs (Contains (here ++ there)) (Contains there) (λ at m. behind here there at m) (told_back s u es graphs (Contains (here ++ there)) told)

  left_wider : (xs ys : List Exchange) → AreAfter u v → (why : FlowError) → HasAskedCause s t es p here xs why → HasAskedCause (s ++ u) (t ++ v) es p (here ++ there) (xs ++ ys) why
  left_wider xs ys after why k =
      has_asked_wider s t (s ++ u) (t ++ v) es p here (here ++ there) xs (xs ++ ys)
      (λ address rose. omega (arith, rose, gain_laws.add_up s u address, gain_laws.add_up t v address, gain_laws.never_fall u v address after))
      (λ address g tell. front_all (λ (w : Seen). w.graph address ≡ Some g) s u tell)
      (λ at m. in_front here there at m)
      (λ x m. in_front xs ys x m) why k

  right_wider : (xs ys : List Exchange) → AreAfter s t → (why : FlowError) → HasAskedCause u v es p there ys why → HasAskedCause (s ++ u) (t ++ v) es p (here ++ there) (xs ++ ys) why
  right_wider xs ys after why k =
      has_asked_wider u v (s ++ u) (t ++ v) es p there (here ++ there) ys (xs ++ ys)
      (λ address rose. omega (arith, rose, gain_laws.add_up s u address, gain_laws.add_up t v address, gain_laws.never_fall s t address after))
      (λ address g tell. back_all (λ (w : Seen). w.graph address ≡ Some g) s u tell)
      (λ at m. behind here there at m)
      (λ x m. behind xs ys x m) why k

  pub members_beside : (a b o : Result Lists FlowError) → AreListsOfBoth a b o → MembersAsked tells alone s t es p here (lists_in a) → MembersAsked tells alone u v es p there (lists_in b)
      → MembersAsked tells alone (s ++ u) (t ++ v) es p (here ++ there) (lists_in o)
  members_beside a b o both h k = record {
    exchanges = h.exchanges ++ k.exchanges;
    gained = λ told. gain_laws.beside s t u v h.exchanges k.exchanges (h.gained told) (k.gained told);
    honest =
        All-append (IsHonestOver (s ++ u)) h.exchanges k.exchanges
        (All-weaker (IsHonestOver s) (IsHonestOver (s ++ u)) (λ x honest graph tell. honest graph (front_all (λ (w : Seen). w.graph x.at.iri ≡ Some graph) s u tell)) h.exchanges h.honest)
        (All-weaker (IsHonestOver u) (IsHonestOver (s ++ u)) (λ x honest graph tell. honest graph (back_all (λ (w : Seen). w.graph x.at.iri ≡ Some graph) s u tell)) k.exchanges k.honest);
    after_all = after_beside s t u v h.after_all k.after_all;
    failed = h.failed + k.failed;
    few = (let one : h.failed ≤ length s = h.few in let two : k.failed ≤ length u = k.few in omega (arith, one, two, length-append s u));
    unfailed = unfailed a b o both h.unfailed k.unfailed;
    counted = λ is address. omega (arith, h.counted is address, k.counted is address, gain_laws.add_up s u address, gain_laws.add_up t v address);
    left = h.left ++ k.left;
    sent =
        subst (λ (w : List Sent). Sends w (h.left ++ k.left) (h.exchanges ++ k.exchanges)) (sym (flat_map-append (member_sent es p.unit p.rows) here there))
        (sent_laws.together (flat_map (member_sent es p.unit p.rows) here) h.left (flat_map (member_sent es p.unit p.rows) there) k.left h.exchanges k.exchanges h.sent k.sent);
    numbered = numbered a b o both h.numbered k.numbered;
    whole = whole a b o both h.whole k.whole;
    short = All-append IsShort h.exchanges k.exchanges h.short k.short;
    faultless = faultless a b o both h.faultless k.faultless;
    read = read a b o both h.read k.read;
    cause = cause a b o both h.cause k.cause;
  }
    where
      unfailed : (a b o : Result Lists FlowError) → AreListsOfBoth a b o → IfOk (lists_in a) (λ _. h.failed ≡ 0) → IfOk (lists_in b) (λ _. k.failed ≡ 0) → IfOk (lists_in o) (λ _. h.failed + k.failed ≡ 0)
      unfailed (Ok x) (Ok y) (Ok all) is e f = let one : h.failed ≡ 0 = e in let two : k.failed ≡ 0 = f in omega (arith, one, two)
      unfailed (Ok x) (Ok y) (Err why) is e f = tt
      unfailed (Ok x) (Err why) o is e f = subst (λ (r : Result Lists FlowError). IfOk (lists_in r) (λ _. h.failed + k.failed ≡ 0)) (sym is) tt
      unfailed (Err why) b o is e f = subst (λ (r : Result Lists FlowError). IfOk (lists_in r) (λ _. h.failed + k.failed ≡ 0)) (sym is) tt

      numbered : (a b o : Result Lists FlowError) → AreListsOfBoth a b o → IfOk (lists_in a) (AreNumbered p) → IfOk (lists_in b) (AreNumbered p) → IfOk (lists_in o) (AreNumbered p)
      numbered (Ok x) (Ok y) (Ok all) is e f = subst (AreNumbered p) (sym is) (All-append (λ list. All (λ (w : Found). Contains (numbers p) w.branch) list) x.items y.items e f)
      numbered (Ok x) (Ok y) (Err why) is e f = tt
      numbered (Ok x) (Err why) o is e f = subst (λ (r : Result Lists FlowError). IfOk (lists_in r) (AreNumbered p)) (sym is) tt
      numbered (Err why) b o is e f = subst (λ (r : Result Lists FlowError). IfOk (lists_in r) (AreNumbered p)) (sym is) tt

      whole : (a b o : Result Lists FlowError) → AreListsOfBoth a b o → IfOk (lists_in a) (λ _. h.left ≡ []) → IfOk (lists_in b) (λ _. k.left ≡ []) → IfOk (lists_in o) (λ _. h.left ++ k.left ≡ [])
      whole (Ok x) (Ok y) (Ok all) is e f = ap (λ (l : List Sent). l ++ k.left) e ∙ f
      whole (Ok x) (Ok y) (Err why) is e f = tt
      whole (Ok x) (Err why) o is e f = subst (λ (r : Result Lists FlowError). IfOk (lists_in r) (λ _. h.left ++ k.left ≡ [])) (sym is) tt
      whole (Err why) b o is e f = subst (λ (r : Result Lists FlowError). IfOk (lists_in r) (λ _. h.left ++ k.left ≡ [])) (sym is) tt

      faultless : (a b o : Result Lists FlowError) → AreListsOfBoth a b o → IfOk (lists_in a) (λ _. All (IsReadFor p) h.exchanges) → IfOk (lists_in b) (λ _. All (IsReadFor p) k.exchanges)
          → IfOk (lists_in o) (λ _. All (IsReadFor p) (h.exchanges ++ k.exchanges))
      faultless (Ok x) (Ok y) (Ok all) is e f = All-append (IsReadFor p) h.exchanges k.exchanges e f
      faultless (Ok x) (Ok y) (Err why) is e f = tt
      faultless (Ok x) (Err why) o is e f = subst (λ (r : Result Lists FlowError). IfOk (lists_in r) (λ _. All (IsReadFor p) (h.exchanges ++ k.exchanges))) (sym is) tt
      faultless (Err why) b o is e f = subst (λ (r : Result Lists FlowError). IfOk (lists_in r) (λ _. All (IsReadFor p) (h.exchanges ++ k.exchanges))) (sym is) tt

      read : (a b o : Result Lists FlowError) → AreListsOfBoth a b o → IfOk (lists_in a) (AreRead es p s here) → IfOk (lists_in b) (AreRead es p u there) → IfOk (lists_in o) (AreRead es p (s ++ u) (here ++ there))
      read (Ok x) (Ok y) (Ok all) is e f = λ graphs told.
          subst (AreToldOf graphs p (here ++ there)) (sym is) (read_both graphs p here there x.items y.items (e graphs (told_here graphs told)) (f graphs (told_there graphs told)))
      read (Ok x) (Ok y) (Err why) is e f = tt
      read (Ok x) (Err why) o is e f = subst (λ (r : Result Lists FlowError). IfOk (lists_in r) (AreRead es p (s ++ u) (here ++ there))) (sym is) tt
      read (Err why) b o is e f = subst (λ (r : Result Lists FlowError). IfOk (lists_in r) (AreRead es p (s ++ u) (here ++ there))) (sym is) tt

      cause : (a b o : Result Lists FlowError) → AreListsOfBoth a b o → IfErr (lists_in a) (HasAskedCause s t es p here h.exchanges) → IfErr (lists_in b) (HasAskedCause u v es p there k.exchanges) → IfErr (lists_in o) (HasAskedCause (s ++ u) (t ++ v) es p (here ++ there) (h.exchanges ++ k.exchanges))
      cause (Ok x) (Ok y) (Ok all) is e f = tt
      cause (Ok x) (Ok y) (Err why) is e f = subst (HasAskedCause (s ++ u) (t ++ v) es p (here ++ there) (h.exchanges ++ k.exchanges)) (sym is) tt
      cause (Ok x) (Err why) o is e f = subst (λ (r : Result Lists FlowError). IfErr (lists_in r) (HasAskedCause (s ++ u) (t ++ v) es p (here ++ there) (h.exchanges ++ k.exchanges))) (sym is) (right_wider h.exchanges k.exchanges h.after_all why f)
      cause (Err why) b o is e f = subst (λ (r : Result Lists FlowError). IfErr (lists_in r) (HasAskedCause (s ++ u) (t ++ v) es p (here ++ there) (h.exchanges ++ k.exchanges))) (sym is) (left_wider h.exchanges k.exchanges k.after_all why e)

pub both_asked : {W : Type 0} (see : W → Seen) (tells alone : Bool) (es : List EndpointParts) (p : Parts) (whole ws vs xs ys : List W) (members here there : List ℕ) (a b o : Result Lists FlowError)
    → whole ≡ ws ++ xs → members ≡ here ++ there
    → MembersAsked tells alone (map see ws) (map see vs) es p here (lists_in a) → MembersAsked tells alone (map see xs) (map see ys) es p there (lists_in b) → AreListsOfBoth a b o
    → MembersAsked tells alone (map see whole) (map see (vs ++ ys)) es p members (lists_in o)
both_asked see tells alone es p whole ws vs xs ys members here there a b o parts cut h k both =
    let before : map see whole ≡ map see ws ++ map see xs = ap (map see) parts ∙ map-append see ws xs in
    let after : map see (vs ++ ys) ≡ map see vs ++ map see ys = map-append see vs ys in
    subst (λ (w : List Seen). MembersAsked tells alone w (map see (vs ++ ys)) es p members (lists_in o)) (sym before)
    (subst (λ (w : List Seen). MembersAsked tells alone (map see ws ++ map see xs) w es p members (lists_in o)) (sym after)
    (subst (λ (w : List ℕ). MembersAsked tells alone (map see ws ++ map see xs) (map see vs ++ map see ys) es p w (lists_in o)) (sym cut)
    (members_beside tells alone es p (map see ws) (map see vs) (map see xs) (map see ys) here there a b o both h k)))

-- ---- a batch

module _ (tells alone : Bool) (s t : List Seen) (es : List EndpointParts) (p : Parts) where
  pub batch_refused : (why : FlowError) → MembersAsked tells alone s t es p p.unit.members (Err why) → BatchAsked tells alone s t es p (Err why)
  batch_refused why h = record {
    exchanges = h.exchanges;
    gained = h.gained;
    honest = h.honest;
    after_all = h.after_all;
    failed = h.failed;
    few = h.few;
    unfailed = tt;
    counted = h.counted;
    left = h.left;
    sent = h.sent;
    whole = tt;
    short = h.short;
    faultless = tt;
    done = tt;
    cause = h.cause;
  }

  pub batch_given : (lists : List (List Found)) (result : Result (Vec Row Global) FlowError) → MembersAsked tells alone s t es p p.unit.members (Ok lists)
      → ((graphs : List (List Triple)) → IsSound graphs p.unit → AreToldOf graphs p p.unit.members lists → IfOk result (λ rows. IsPermutation rows.items (step (union graphs) p.unit p.rows)))
      → IfErr result (λ e. e ≡ flow.Memory) → BatchAsked tells alone s t es p (rows_in result)
  batch_given lists (Ok rows) h f m = record {
    exchanges = h.exchanges;
    gained = h.gained;
    honest = h.honest;
    after_all = h.after_all;
    failed = h.failed;
    few = h.few;
    unfailed = h.unfailed;
    counted = h.counted;
    left = h.left;
    sent = h.sent;
    whole = h.whole;
    short = h.short;
    faultless = h.faultless;
    done = λ graphs told sound. f graphs sound (h.read graphs told);
    cause = tt;
  }
  batch_given lists (Err why) h f m = record {
    exchanges = h.exchanges;
    gained = h.gained;
    honest = h.honest;
    after_all = h.after_all;
    failed = h.failed;
    few = h.few;
    unfailed = tt;
    counted = h.counted;
    left = h.left;
    sent = h.sent;
    whole = tt;
    short = h.short;
    faultless = tt;
    done = tt;
    cause = subst (HasAskedCause s t es p p.unit.members h.exchanges) (sym m) tt;
  }

pub batch_unasked : (tells alone : Bool) (wires : List Seen) (es : List EndpointParts) (p : Parts) → BatchAsked tells alone wires wires es p (Err flow.Memory)
batch_unasked tells alone wires es p = record {
  exchanges = [];
  gained = λ told. gain_laws.nothing wires;
  honest = All-nil (IsHonestOver wires);
  after_all = after_itself wires;
  failed = 0;
  few = zero-le;
  unfailed = tt;
  counted = λ is address. omega arith;
  left = unit_sent es p.unit p.rows;
  sent = IsPermutation-refl (unit_sent es p.unit p.rows);
  whole = tt;
  short = All-nil IsShort;
  faultless = tt;
  done = tt;
  cause = tt;
}

-- ---- one wire

module _ (alone : Bool) (s t : Seen) (es : List EndpointParts) (p : Parts) where
  its_log : (xs : List Exchange) → HaveGained (s ∷ []) (t ∷ []) xs → t.log ≡ s.log ++ xs
  its_log xs h = h.3 ∙ ap (λ (v : List Exchange). s.log ++ v) (sym (h.2 ∙ ap (λ (v : List Exchange). h.0 ++ v) h.4 ∙ append-nil h.0))

  tells_alone : (address : List ℕ) (g : List Triple) → s.graph address ≡ Some g → Tell (s ∷ []) address g
  tells_alone address g told = All-from_recursion (λ (w : Seen). w.graph address ≡ Some g) (s ∷ []) (told, tt)

  honest_alone : (x : Exchange) → IsHonestOver (s ∷ []) x → IsHonestAt s.graph x
  honest_alone x h = by (s.graph x.at.iri) refl
    where
      by : (o : Option (List Triple)) → s.graph x.at.iri ≡ o → IfSome o (λ told. IsGraph told × (length x.reply ≤ 67108864 → IsHonest told x.request x.reply))
      by None e = tt
      by (Some g) e = h g (tells_alone x.at.iri g e)

  all_told : (graphs : List (List Triple)) → AreTold s.graph es graphs (Contains p.unit.members) → TellOf (s ∷ []) es graphs (Contains p.unit.members)
  all_told graphs told = λ at e of found. tells_alone e.iri (graph_of graphs at) (told at e of found)

  count_of : (w : Seen) (address : List ℕ) → faults_at (w ∷ []) address ≡ w.faults address
  count_of w address = (let all : faults_at (w ∷ []) address ≡ w.faults address + 0 = sum_by-cons (λ (v : Seen). v.faults address) w [] in omega (arith, all))

  cause_alone : (e : EndpointParts) (xs : List Exchange) (why : FlowError) → IsCause (faults_at (s ∷ []) e.iri < faults_at (t ∷ []) e.iri) (Tell (s ∷ []) e.iri) e p xs why → IsBatchCause s t e p xs why
  cause_alone e xs (flow.Member at) k = let rose : faults_at (s ∷ []) e.iri < faults_at (t ∷ []) e.iri = k in omega (arith, rose, count_of s e.iri, count_of t e.iri)
  cause_alone e xs (flow.BadReply at bad) k = record {
    of_kind = k.of_kind;
    text = k.text;
    of_batch = k.of_batch;
    posts = k.posts;
    exchanged_so = k.exchanged_so;
    fault = k.fault;
    long = λ g told. k.long g (tells_alone e.iri g told);
  }
  cause_alone e xs (flow.RequestTooLong at size) k = k
  cause_alone e xs flow.Memory k = tt

  member_cause : (xs : List Exchange) (why : FlowError) → IsAskedCause (s ∷ []) (t ∷ []) es p p.unit.members xs why → IsMemberCause s t es p p.unit.members xs why
  member_cause xs why k = record { at = k.at; member = k.member; endpoint = k.endpoint; found = k.found; named = k.named; cause = cause_alone k.endpoint xs why k.cause }

  has_member_cause : (xs : List Exchange) (why : FlowError) → HasAskedCause (s ∷ []) (t ∷ []) es p p.unit.members xs why → HasMemberCause s t es p p.unit.members xs why
  has_member_cause xs (flow.Member at) k = member_cause xs (flow.Member at) k
  has_member_cause xs (flow.BadReply at bad) k = member_cause xs (flow.BadReply at bad) k
  has_member_cause xs (flow.RequestTooLong at size) k = member_cause xs (flow.RequestTooLong at size) k
  has_member_cause xs flow.Memory k = tt

  pub as_of_one : (r : Result (List Row) FlowError) → t.tells_log ≡ s.tells_log → BatchAsked s.tells_log alone (s ∷ []) (t ∷ []) es p r → AskedBatch alone s t es p r
  as_of_one r same h = record {
    exchanges = h.exchanges;
    failed = h.failed;
    once = h.few;
    unfailed = h.unfailed;
    passed = record {
      logged = λ told. its_log h.exchanges (h.gained told);
      honest = All-weaker (IsHonestOver (s ∷ [])) (IsHonestAt s.graph) honest_alone h.exchanges h.honest;
      same = h.after_all.0.same;
      tells = same;
      kept = h.after_all.0.kept;
      counted = λ is address. (let few : faults_at (t ∷ []) address ≤ faults_at (s ∷ []) address + h.failed = h.counted is address in omega (arith, few, count_of s address, count_of t address));
    };
    left = h.left;
    sent = h.sent;
    whole = h.whole;
    short = h.short;
    faultless = h.faultless;
    done = done r h.done;
    cause = cause r h.cause;
  }
    where
      done : (o : Result (List Row) FlowError) → IfOk o (λ rows. (graphs : List (List Triple)) → TellOf (s ∷ []) es graphs (Contains p.unit.members) → IsSound graphs p.unit → IsPermutation rows (step (union graphs) p.unit p.rows))
          → IfOk o (λ rows. (graphs : List (List Triple)) → AreTold s.graph es graphs (Contains p.unit.members) → IsSound graphs p.unit → IsPermutation rows (step (union graphs) p.unit p.rows))
      done (Ok rows) k = λ graphs told sound. k graphs (all_told graphs told) sound
      done (Err why) k = tt

      cause : (o : Result (List Row) FlowError) → IfErr o (HasAskedCause (s ∷ []) (t ∷ []) es p p.unit.members h.exchanges) → IfErr o (HasMemberCause s t es p p.unit.members h.exchanges)
      cause (Ok rows) k = tt
      cause (Err why) k = has_member_cause h.exchanges why k

pub over_one_wire : OverOneWire
over_one_wire alone s t es p r same h = as_of_one alone s t es p r same h
