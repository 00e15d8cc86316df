-- What asking one member for a batch leaves of a wire, and what it gives.
use Rattle.std.proofs.Common.{◌≡◌, ◌∙◌, ap, sym, subst, refl, ◌+◌, ◌<◌, ◌≤◌, ltb, Bool, true, false, ◌⊎◌, inl, inr, length, List, [], ◌∷◌, ℕ, Option, Some, None, IfSome, IfOk, IfErr, IsTrue, Result, Ok, Err, All, Contains, slice_get, bytes_eq, ◌≢◌, arith, append-nil}
use Rattle.std.proofs.lemmas.List.Elements.{All-from_recursion, recursion_from_All}
use Rattle.std.proofs.lemmas.List.Sorted.{IsPermutation-refl}
use Rattle.std.proofs.lemmas.Slice.Eq.{bytes_eq-Decides}
use borrow.Author.Tests.{ltb-false, ltb-true}
use Rattle.fx_terms.specs.Graphs.{IsGraph}
use Rattle.fx_terms.specs.declared.triples.Triple.{Triple}
use Rattle.fx_terms.proofs.SetLemmas.{contains_from}
use Rattle.fx_outside.specs.Endpoints.{EndpointParts}
use Rattle.fx_grammar.specs.Accepted.{Accepted}
use Rattle.fx_http.specs.Requests.{request_of}
use Rattle.fx_http.specs.declared.replies.ReplyError.TheVariants.{TooLong}
use Rattle.fx_wire.specs.Exchanges.{Exchange, Seen, exchanged}
use Rattle.fx_wire.specs.Honest.{IsHonest}
use Rattle.fx_bound.specs.Answers.{numbers}
use Rattle.fx_bound.specs.Parts.{Parts}
use Rattle.fx_founds.specs.declared.founds.Found.{Found}
use Rattle.fx_traffic.specs.Batches.{member_sent, text_for, text_sent, to_endpoint}
use Rattle.fx_traffic.specs.Sent.{Sent, Sends}
use Rattle.fx_flows.specs.Flows.{AskedMember, FoundBy, FoundIn, IsBadReplyTo, IsBatchCause, IsReadFor, IsShort, IsToldBy, Names, Passed}
use Rattle.fx_flows.specs.Forms.{IsMadeIn, query_in}
use Rattle.fx_pool.specs.Posting.{IsHonestAt, IsPosted, IsSent, exchanges_of, failures_of}
use Rattle.fx_pool.specs.Reading.{carried_for, HasFault}
use Rattle.fx_pool.specs.declared.faults.ReplyFault.TheVariants.{Http}
use Rattle.fx_flows.specs.declared.flows.FlowError.{FlowError}
use Rattle.fx_flows.specs.declared.flows.FlowError.TheVariants as flow
use Rattle.fx_pool.specs.declared.jobs.BadReply.{BadReply}
use Rattle.fx_pool.specs.declared.posting.Posted.{Posted}
use Rattle.fx_pool.specs.declared.posting.Posted.TheVariants as posted
use Rattle.fx_flows.proofs.BatchLemmas.{found_told, honest_faultless, nothing_told, only_long}

long_or_short : (n : ℕ) (b : Bool) → ltb 67108864 n ≡ b → (67108864 < n) ⊎ (n ≤ 67108864)
long_or_short n true h = inl (ltb-true 67108864 n h)
long_or_short n false h = inr (ltb-false 67108864 n h)

-- what is counted at one address, where others stay
pub counted_at_most : (alone : Bool) (s t : Seen) (iri : List ℕ) (n : ℕ) → t.faults iri ≡ s.faults iri + n → (IsTrue alone → (address : List ℕ) → address ≢ iri → t.faults address ≡ s.faults address)
    → IsTrue alone → (address : List ℕ) → t.faults address ≤ s.faults address + n
counted_at_most alone s t iri n counted others is address = by (bytes_eq iri address) refl
  where
    by : (b : Bool) → bytes_eq iri address ≡ b → t.faults address ≤ s.faults address + n
    by true e = let here : t.faults address ≡ s.faults address + n = subst (λ (a : List ℕ). t.faults a ≡ s.faults a + n) ((bytes_eq-Decides iri address).0 e) counted in omega (arith, here)
    by false e = let there : t.faults address ≡ s.faults address = others is address (λ same. let yes : bytes_eq iri address ≡ true = (bytes_eq-Decides iri address).1 (sym same) in cc) in omega (arith, there)

module _ (alone : Bool) (es : List EndpointParts) (p : Parts) (at : ℕ) (e : EndpointParts) (found : slice_get es at ≡ Some e) where
  member_text : (text : Option (List ℕ)) → text_for e p ≡ text → member_sent es p.unit p.rows at ≡ text_sent e text
  member_text text h = ap (to_endpoint p.unit p.rows) found ∙ ap (text_sent e) h

  -- ---- a batch without a text

  pub asked_nothing : (s : Seen) → text_for e p ≡ None → AskedMember alone s s es p at (Ok [])
  asked_nothing s none =
      let silent : member_sent es p.unit p.rows at ≡ [] = member_text None none in
      record {
        exchanges = [];
        failed = 0;
        once = omega arith;
        unfailed = refl;
        passed = record { logged = λ told. sym (append-nil s.log); honest = All-from_recursion (IsHonestAt s.graph) [] tt; same = λ address. refl; tells = refl; kept = λ address. omega arith; counted = λ is address. omega arith };
        left = [];
        sent = subst (λ (v : List Sent). Sends v [] []) (sym silent) (IsPermutation-refl []);
        endpoint = e;
        found = found;
        numbered = All-from_recursion (λ (f : Found). Contains (numbers p) f.branch) [] tt;
        whole = refl;
        short = All-from_recursion IsShort [] tt;
        faultless = All-from_recursion (IsReadFor p) [] tt;
        read = λ g told. nothing_told e p g none;
        named = tt;
        cause = tt;
      }

  module _ (s t : Seen) (text : List ℕ) (is : text_for e p ≡ Some text) (known : IsMadeIn e.values p) (accepted : Accepted text (query_in e.values p)) where
    abbrev wanted : Sent
    wanted = record { at = e; request = request_of e text }

    sent_by : (xs : List Exchange) (left : List Sent) → Sends (wanted ∷ []) left xs → Sends (member_sent es p.unit p.rows at) left xs
    sent_by xs left h = subst (λ (v : List Sent). Sends v left xs) (sym (member_text (Some text) is)) h

    -- ---- one that lacked memory

    pub asked_in_vain : Passed alone 0 s t [] → AskedMember alone s t es p at (Err flow.Memory)
    asked_in_vain passed = record {
      exchanges = [];
      failed = 0;
      once = omega arith;
      unfailed = tt;
      passed = passed;
      left = wanted ∷ [];
      sent = sent_by [] (wanted ∷ []) (IsPermutation-refl (wanted ∷ []));
      endpoint = e;
      found = found;
      numbered = tt;
      whole = tt;
      short = All-from_recursion IsShort [] tt;
      faultless = tt;
      read = tt;
      named = tt;
      cause = tt;
    }

    -- ---- one that was posted

    module _ (request bytes : List ℕ) (posts : IsSent e text request) (passed : Passed alone 0 s t (exchanged e request bytes ∷ [])) where
      abbrev x : Exchange
      x = exchanged e request bytes

      told_honest : (g : List Triple) → s.graph e.iri ≡ Some g → length bytes ≤ 67108864 → IsHonest g request bytes
      told_honest g told short =
          (subst (λ (o : Option (List Triple)). IfSome o (λ graph. IsGraph graph × (length bytes ≤ 67108864 → IsHonest graph request bytes))) told (recursion_from_All (IsHonestAt s.graph) (x ∷ []) passed.honest).0).1 short

      long_by : (bad : BadReply) → IsBadReplyTo (carried_for e p) request bytes bad → (g : List Triple) → s.graph e.iri ≡ Some g → (b : Bool) → ltb 67108864 (length bytes) ≡ b → (bad.why ≡ Http TooLong) × (67108864 < length bad.reply)
      long_by bad h g told b test = pick (long_or_short (length bytes) b test)
        where
          pick : (67108864 < length bytes) ⊎ (length bytes ≤ 67108864) → (bad.why ≡ Http TooLong) × (67108864 < length bad.reply)
          pick (inl long) = (only_long e p bytes bad.why long h.fault, subst (λ (v : List ℕ). 67108864 < length v) (sym h.replied) long)
          pick (inr short) = absurd (honest_faultless p g request bytes text (told_honest g told short) posts.whole posts.short e.values known accepted bad.why short h.fault)

      replied : (result : Result (List Found) FlowError) → FoundIn (carried_for e p) p at request bytes result → AskedMember alone s t es p at result
      replied result h = record {
        exchanges = x ∷ [];
        failed = 0;
        once = omega arith;
        unfailed = unfailed result;
        passed = passed;
        left = [];
        sent = sent_by (x ∷ []) [] (subst (λ (v : List ℕ). Sends (wanted ∷ []) [] (exchanged e v bytes ∷ [])) (sym posts.exact) (IsPermutation-refl (wanted ∷ [])));
        endpoint = e;
        found = found;
        numbered = numbered result h;
        whole = whole result;
        short = All-from_recursion IsShort (x ∷ []) (record { text = text; posts = posts.exact; short = posts.short }, tt);
        faultless = faultless result h;
        read = read result h;
        named = named result h;
        cause = cause result h;
      }
        where
          whole : (r : Result (List Found) FlowError) → IfOk r (λ _. ◌≡◌ {A = List Sent} [] [])
          whole (Ok founds) = refl
          whole (Err why) = tt

          unfailed : (r : Result (List Found) FlowError) → IfOk r (λ _. ◌≡◌ {A = ℕ} 0 0)
          unfailed (Ok founds) = refl
          unfailed (Err why) = tt

          numbered : (r : Result (List Found) FlowError) → FoundIn (carried_for e p) p at request bytes r → IfOk r (λ founds. All (λ f. Contains (numbers p) f.branch) founds)
          numbered (Ok founds) k = k.1
          numbered (Err why) k = tt

          faultless : (r : Result (List Found) FlowError) → FoundIn (carried_for e p) p at request bytes r → IfOk r (λ _. All (IsReadFor p) (x ∷ []))
          faultless (Ok founds) k = All-from_recursion (IsReadFor p) (x ∷ []) (record { text = text; of_batch = is; posts = posts.exact; founds = founds; tells = k.0 }, tt)
          faultless (Err why) k = tt

          read : (r : Result (List Found) FlowError) → FoundIn (carried_for e p) p at request bytes r → IfOk r (λ founds. (g : List Triple) → s.graph e.iri ≡ Some g → IsToldBy g p founds)
          read (Ok founds) k = λ g told. found_told p g request bytes text (told_honest g told k.0.results.replied.0) posts.whole posts.short e.values known accepted founds k.0
          read (Err why) k = tt

          named : (r : Result (List Found) FlowError) → FoundIn (carried_for e p) p at request bytes r → IfErr r (Names at)
          named (Ok founds) k = tt
          named (Err (flow.BadReply it bad)) k = k.0
          named (Err flow.Memory) k = tt
          named (Err (flow.Member it)) k = absurd k
          named (Err (flow.RequestTooLong it size)) k = absurd k

          cause : (r : Result (List Found) FlowError) → FoundIn (carried_for e p) p at request bytes r → IfErr r (IsBatchCause s t e p (x ∷ []))
          cause (Ok founds) k = tt
          cause (Err (flow.BadReply it bad)) k = record {
            of_kind = k.1.of_kind;
            text = text;
            of_batch = is;
            posts = k.1.requested ∙ posts.exact;
            exchanged_so = contains_from (x ∷ []) (exchanged e bad.request bad.reply) (inl (λ i. exchanged e (sym k.1.requested i) (sym k.1.replied i)));
            fault = subst (λ (v : List ℕ). HasFault (carried_for e p) v bad.why) (sym k.1.replied) k.1.fault;
            long = λ g told. long_by bad k.1 g told (ltb 67108864 (length bytes)) refl;
          }
          cause (Err flow.Memory) k = tt
          cause (Err (flow.Member it)) k = absurd k
          cause (Err (flow.RequestTooLong it size)) k = absurd k

    pub asked_member : (r : Posted) (result : Result (List Found) FlowError) → IsPosted e text r → Passed alone (failures_of r) s t (exchanges_of e r) → t.faults e.iri ≡ s.faults e.iri + failures_of r → FoundBy (carried_for e p) p at r result → AskedMember alone s t es p at result
    asked_member (posted.Replied request bytes) result posts passed counted h = replied request bytes posts passed result h
    asked_member posted.Failed result posts passed counted h = subst (AskedMember alone s t es p at) (sym h) (record {
      exchanges = [];
      failed = 1;
      once = omega arith;
      unfailed = tt;
      passed = passed;
      left = wanted ∷ [];
      sent = sent_by [] (wanted ∷ []) (IsPermutation-refl (wanted ∷ []));
      endpoint = e;
      found = found;
      numbered = tt;
      whole = tt;
      short = All-from_recursion IsShort [] tt;
      faultless = tt;
      read = tt;
      named = refl;
      cause = let more : t.faults e.iri ≡ s.faults e.iri + 1 = counted in omega (arith, more);
    })
    asked_member (posted.TooLong size) result posts passed counted h = subst (AskedMember alone s t es p at) (sym h) (record {
      exchanges = [];
      failed = 0;
      once = omega arith;
      unfailed = tt;
      passed = passed;
      left = wanted ∷ [];
      sent = sent_by [] (wanted ∷ []) (IsPermutation-refl (wanted ∷ []));
      endpoint = e;
      found = found;
      numbered = tt;
      whole = tt;
      short = All-from_recursion IsShort [] tt;
      faultless = tt;
      read = tt;
      named = refl;
      cause = record { text = text; of_batch = is; long = posts.1; size_is = posts.0 };
    })
