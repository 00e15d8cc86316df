-- What asking members one after another leaves of a wire.
use Rattle.std.proofs.Common.{◌≡◌, ◌∙◌, ap, sym, subst, refl, ◌+◌, ◌<◌, ◌≤◌, Bool, ℕ, List, [], ◌∷◌, ◌++◌, Option, IsTrue, Ok, Err, All, Contains, arith, append-nil, append_assoc, inl}
use Rattle.std.specs.List.{flat_map}
use Rattle.std.proofs.lemmas.Grind.{flat_map-append}
use Rattle.std.proofs.lemmas.List.Elements.{All-append, All-from_recursion}
use Rattle.std.proofs.lemmas.List.Sorted.{IsPermutation-refl}
use Rattle.fx_terms.specs.declared.triples.Triple.{Triple}
use Rattle.fx_terms.proofs.SetLemmas.{Among, among_from, contains_from}
use Rattle.fx_algebra.proofs.MemberLemmas.{among_left, among_right}
use Rattle.fx_outside.specs.Endpoints.{EndpointParts}
use Rattle.fx_algebra.specs.Units.{graph_of}
use Rattle.fx_bound.specs.Answers.{numbers}
use Rattle.fx_bound.specs.Parts.{Parts}
use Rattle.fx_founds.specs.declared.founds.Found.{Found}
use Rattle.fx_traffic.specs.Batches.{member_sent}
use Rattle.fx_traffic.specs.Sent.{Sent, Sends}
use Rattle.fx_traffic.proofs.SentLemmas.{sent_laws}
use Rattle.fx_wire.specs.Exchanges.{Exchange, Seen, exchanged}
use Rattle.fx_flows.specs.Flows.{AreTold, AreToldOf, AskedMember, AskedMembers, HasMemberCause, IsBatchCause, IsMemberCause, IsReadFor, IsShort, IsToldBy, Passed}
use Rattle.fx_pool.specs.Posting.{AreHonest, IsHonestAt}
use Rattle.fx_flows.specs.declared.flows.FlowError.{FlowError}
use Rattle.fx_flows.specs.declared.flows.FlowError.TheVariants as flow

-- ---- exchanges

pub passed_none : (alone : Bool) (s : Seen) → Passed alone 0 s s []
passed_none alone s = record {
  logged = λ told. sym (append-nil s.log);
  honest = All-from_recursion (IsHonestAt s.graph) [] tt;
  same = λ address. refl;
  tells = refl;
  kept = λ address. omega arith;
  counted = λ is address. omega arith;
}

pub passed_both : (alone : Bool) (m n : ℕ) (s t u : Seen) (xs ys : List Exchange) → Passed alone m s t xs → Passed alone n t u ys → Passed alone (m + n) s u (xs ++ ys)
passed_both alone m n s t u xs ys h k = record {
  logged = λ told. k.logged (subst IsTrue (sym h.tells) told) ∙ ap (λ (v : List Exchange). v ++ ys) (h.logged told) ∙ append_assoc s.log xs ys;
  honest = All-append (IsHonestAt s.graph) xs ys h.honest (subst (λ (g : List ℕ → Option (List Triple)). AreHonest g ys) (λ i address. h.same address i) k.honest);
  same = λ address. k.same address ∙ h.same address;
  tells = k.tells ∙ h.tells;
  kept = λ address. let one : s.faults address ≤ t.faults address = h.kept address in let two : t.faults address ≤ u.faults address = k.kept address in omega (arith, one, two);
  counted = λ is address.
      let one : t.faults address ≤ s.faults address + m = h.counted is address in
      let two : u.faults address ≤ t.faults address + n = k.counted is address in
      omega (arith, one, two);
}

-- exchanges without a fault, and others behind them
pub passed_behind : (alone : Bool) (n : ℕ) (s t u : Seen) (xs ys : List Exchange) → Passed alone 0 s t xs → Passed alone n t u ys → Passed alone n s u (xs ++ ys)
passed_behind alone n s t u xs ys h k =
    let same : 0 + n ≡ n = omega arith in
    subst (λ (m : ℕ). Passed alone m s u (xs ++ ys)) same (passed_both alone 0 n s t u xs ys h k)

-- ---- causes

behind_contains : (xs ys : List Exchange) (x : Exchange) → Contains ys x → Contains (xs ++ ys) x
behind_contains xs ys x h = contains_from (xs ++ ys) x (among_right x xs ys (among_from ys x h))

front_contains : (xs ys : List Exchange) (x : Exchange) → Contains xs x → Contains (xs ++ ys) x
front_contains xs ys x h = contains_from (xs ++ ys) x (among_left x xs ys (among_from xs x h))

-- a cause that came behind other exchanges is one of all of them
pub cause_behind : (s t u : Seen) (e : EndpointParts) (p : Parts) (xs ys : List Exchange) (why : FlowError) (alone : Bool) (m : ℕ) → Passed alone m s t xs → IsBatchCause t u e p ys why → IsBatchCause s u e p (xs ++ ys) why
cause_behind s t u e p xs ys (flow.Member at) alone m h k = let low : s.faults e.iri ≤ t.faults e.iri = h.kept e.iri in let high : t.faults e.iri < u.faults e.iri = k in omega (arith, low, high)
cause_behind s t u e p xs ys (flow.BadReply at bad) alone m h k = record {
  of_kind = k.of_kind;
  text = k.text;
  of_batch = k.of_batch;
  posts = k.posts;
  exchanged_so = behind_contains xs ys (exchanged e bad.request bad.reply) k.exchanged_so;
  fault = k.fault;
  long = λ g told. k.long g (h.same e.iri ∙ told);
}
cause_behind s t u e p xs ys (flow.RequestTooLong at size) alone m h k = k
cause_behind s t u e p xs ys flow.Memory alone m h k = tt

-- ---- what members give

pub same_told : (before after : List ℕ → Option (List Triple)) → ((address : List ℕ) → after address ≡ before address) → (es : List EndpointParts) (graphs : List (List Triple)) (Of : ℕ → Type 0) → AreTold before es graphs Of → AreTold after es graphs Of
same_told before after same es graphs Of h = λ at e of found. same e.iri ∙ h at e of found

read_more : (graphs : List (List Triple)) (p : Parts) (members : List ℕ) (lists : List (List Found)) (at : ℕ) (founds : List Found) → AreToldOf graphs p members lists → IsToldBy (graph_of graphs at) p founds → AreToldOf graphs p (members ++ at ∷ []) (lists ++ founds ∷ [])
read_more graphs p [] [] at founds h k = (k, tt)
read_more graphs p [] (l ∷ lists) at founds h k = absurd h
read_more graphs p (m ∷ members) [] at founds h k = absurd h
read_more graphs p (m ∷ members) (l ∷ lists) at founds h k = (h.0, read_more graphs p members lists at founds h.1 k)

pub asked_none : (alone : Bool) (s : Seen) (es : List EndpointParts) (p : Parts) → AskedMembers alone s s es p [] (Ok [])
asked_none alone s es p = record {
  exchanges = [];
  failed = 0;
  once = omega arith;
  unfailed = refl;
  passed = passed_none alone s;
  left = [];
  sent = IsPermutation-refl [];
  numbered = All-from_recursion (λ list. All (λ (f : Found). Contains (numbers p) f.branch) list) [] tt;
  whole = refl;
  short = All-from_recursion IsShort [] tt;
  faultless = All-from_recursion (IsReadFor p) [] tt;
  read = λ graphs told. tt;
  cause = tt;
}

module _ (alone : Bool) (s t u : Seen) (es : List EndpointParts) (p : Parts) (members : List ℕ) (lists : List (List Found)) (at : ℕ) (h : AskedMembers alone s t es p members (Ok lists)) where
  both_sent : (left : List Sent) (ys : List Exchange) → Sends (member_sent es p.unit p.rows at) left ys → Sends (flat_map (member_sent es p.unit p.rows) (members ++ at ∷ [])) (h.left ++ left) (h.exchanges ++ ys)
  both_sent left ys k =
      subst (λ (v : List Sent). Sends v (h.left ++ left) (h.exchanges ++ ys))
      (sym (flat_map-append (member_sent es p.unit p.rows) members (at ∷ []) ∙ ap (λ (v : List Sent). flat_map (member_sent es p.unit p.rows) members ++ v) (append-nil (member_sent es p.unit p.rows at))))
      (sent_laws.together (flat_map (member_sent es p.unit p.rows) members) h.left (member_sent es p.unit p.rows at) left h.exchanges ys h.sent k)

  pub one_more : (founds : List Found) → AskedMember alone t u es p at (Ok founds) → AskedMembers alone s u es p (members ++ at ∷ []) (Ok (lists ++ founds ∷ []))
  one_more founds k = record {
    exchanges = h.exchanges ++ k.exchanges;
    failed = h.failed + k.failed;
    once = let m : h.failed ≡ 0 = h.unfailed in let n : k.failed ≡ 0 = k.unfailed in omega (arith, m, n);
    unfailed = let m : h.failed ≡ 0 = h.unfailed in let n : k.failed ≡ 0 = k.unfailed in omega (arith, m, n);
    passed = passed_both alone h.failed k.failed s t u h.exchanges k.exchanges h.passed k.passed;
    left = h.left ++ k.left;
    sent = both_sent k.left k.exchanges k.sent;
    numbered = All-append (λ list. All (λ (f : Found). Contains (numbers p) f.branch) list) lists (founds ∷ []) h.numbered (All-from_recursion (λ list. All (λ (f : Found). Contains (numbers p) f.branch) list) (founds ∷ []) (k.numbered, tt));
    whole = ap (λ (v : List Sent). v ++ k.left) h.whole ∙ k.whole;
    short = All-append IsShort h.exchanges k.exchanges h.short k.short;
    faultless = All-append (IsReadFor p) h.exchanges k.exchanges h.faultless k.faultless;
    read = λ graphs told.
        read_more graphs p members lists at founds (h.read graphs (λ n e m found. told n e (contains_from (members ++ at ∷ []) n (among_left n members (at ∷ []) (among_from members n m))) found))
        (k.read (graph_of graphs at) (h.passed.same k.endpoint.iri ∙ told at k.endpoint (contains_from (members ++ at ∷ []) at (among_right at members (at ∷ []) (inl refl))) k.found));
    cause = tt;
  }

  -- the call ends at a member, and the others aren't asked
  module _ (all : List ℕ) (rest : List ℕ) (whole : (members ++ at ∷ []) ++ rest ≡ all) where
    left_over : (left : List Sent) (xs : List Exchange) → Sends (flat_map (member_sent es p.unit p.rows) (members ++ at ∷ [])) left xs → Sends (flat_map (member_sent es p.unit p.rows) all) (left ++ flat_map (member_sent es p.unit p.rows) rest) xs
    left_over left xs k =
        subst (λ (v : List ℕ). Sends (flat_map (member_sent es p.unit p.rows) v) (left ++ flat_map (member_sent es p.unit p.rows) rest) xs) whole
        (subst (λ (v : List Sent). Sends v (left ++ flat_map (member_sent es p.unit p.rows) rest) xs) (sym (flat_map-append (member_sent es p.unit p.rows) (members ++ at ∷ []) rest))
        (subst (λ (v : List Exchange). Sends (flat_map (member_sent es p.unit p.rows) (members ++ at ∷ []) ++ flat_map (member_sent es p.unit p.rows) rest) (left ++ flat_map (member_sent es p.unit p.rows) rest) v) (append-nil xs)
        (sent_laws.together (flat_map (member_sent es p.unit p.rows) (members ++ at ∷ [])) left (flat_map (member_sent es p.unit p.rows) rest) (flat_map (member_sent es p.unit p.rows) rest) xs [] k (sent_laws.nothing (flat_map (member_sent es p.unit p.rows) rest)))))

    its_member : Contains all at
    its_member = contains_from all at (subst (Among at) whole (among_left at (members ++ at ∷ []) rest (among_right at members (at ∷ []) (inl refl))))

    as_cause : (xs : List Exchange) (why : FlowError) → IsMemberCause s u es p all xs why → HasMemberCause s u es p all xs why
    as_cause xs (flow.Member it) k = k
    as_cause xs (flow.BadReply it bad) k = k
    as_cause xs (flow.RequestTooLong it size) k = k
    as_cause xs flow.Memory k = tt

    pub stopped : (why : FlowError) → AskedMember alone t u es p at (Err why) → AskedMembers alone s u es p all (Err why)
    stopped why k = record {
      exchanges = h.exchanges ++ k.exchanges;
      failed = h.failed + k.failed;
      once = let m : h.failed ≡ 0 = h.unfailed in let n : k.failed ≤ 1 = k.once in omega (arith, m, n);
      unfailed = tt;
      passed = passed_both alone h.failed k.failed s t u h.exchanges k.exchanges h.passed k.passed;
      left = (h.left ++ k.left) ++ flat_map (member_sent es p.unit p.rows) rest;
      sent = left_over (h.left ++ k.left) (h.exchanges ++ k.exchanges) (both_sent k.left k.exchanges k.sent);
      numbered = tt;
      whole = tt;
      short = All-append IsShort h.exchanges k.exchanges h.short k.short;
      faultless = tt;
      read = tt;
      cause =
          as_cause (h.exchanges ++ k.exchanges) why
          (record { at = at; member = its_member; endpoint = k.endpoint; found = k.found; named = k.named; cause = cause_behind s t u k.endpoint p h.exchanges k.exchanges why alone h.failed h.passed k.cause });
    }

    pub lost : (founds : List Found) → AskedMember alone t u es p at (Ok founds) → AskedMembers alone s u es p all (Err flow.Memory)
    lost founds k = record {
      exchanges = h.exchanges ++ k.exchanges;
      failed = h.failed + k.failed;
      once = let m : h.failed ≡ 0 = h.unfailed in let n : k.failed ≤ 1 = k.once in omega (arith, m, n);
      unfailed = tt;
      passed = passed_both alone h.failed k.failed s t u h.exchanges k.exchanges h.passed k.passed;
      left = (h.left ++ k.left) ++ flat_map (member_sent es p.unit p.rows) rest;
      sent = left_over (h.left ++ k.left) (h.exchanges ++ k.exchanges) (both_sent k.left k.exchanges k.sent);
      numbered = tt;
      whole = tt;
      short = All-append IsShort h.exchanges k.exchanges h.short k.short;
      faultless = tt;
      read = tt;
      cause = tt;
    }
