-- What workers did in the order of their draws is what was asked for, in the order of the jobs.
use Rattle.std.proofs.Common.{◌≡◌, ◌∙◌, ap, sym, subst, refl, ℕ, suc, ◌+◌, ◌<◌, ◌≤◌, Bool, true, false, cond, eqb, ltb, List, [], ◌∷◌, ◌++◌, map, filter, sum_by, All, IsPermutation, Option, Some, None, IfOk, Result, Ok, Err, Vec, length, get_or, slice_get, arith, append_assoc, inl, inr, ◌⊎◌, zero-add}
use Rattle.std.specs.List.{AllByRecursion, flat_map}
use Rattle.std.specs.declared.alloc.Global.{Global}
use Rattle.std.proofs.lemmas.Bool.Decides.{nat_tests}
use Rattle.std.proofs.lemmas.Grind.{flat_map-append}
use Rattle.std.proofs.lemmas.List.Elements.{All-from_recursion, recursion_from_All}
use Rattle.std.proofs.lemmas.List.Sorted.{All-permutation, IsPermutation-append, IsPermutation-map, IsPermutation-refl, IsPermutation-sym, IsPermutation-trans, sum_by-IsPermutation}
use Rattle.std.proofs.lemmas.List.Sums.{sum_by-append, sum_by-cons}
use Rattle.std.proofs.lemmas.Option.{slice_get_cases, slice_get_past}
use Rattle.fx_terms.specs.declared.allocation.Memory.{Memory}
use Rattle.fx_outside.specs.Endpoints.{EndpointParts}
use Rattle.fx_http.specs.Requests.{request_of}
use Rattle.fx_traffic.specs.Gains.{faults_at}
use Rattle.fx_traffic.proofs.GainLemmas.{gain_laws}
use Rattle.fx_traffic.specs.Sent.{Sent, sent_of}
use Rattle.fx_wire.specs.Exchanges.{Exchange, Seen}
use Rattle.fx_pool.specs.Claims.{once_below, times}
use Rattle.fx_pool.specs.Jobs.{AreDone, AreWanted, IsDone, failures_at, is_at, is_failure, text_of}
use Rattle.fx_pool.specs.Runs.{AreDoneInSome, AreOfJobs, IsHonestOver, WiresDid, all_replies, jobs_at}
use Rattle.fx_pool.specs.Sharing.{AreInOrder, at_most_one, below, jobs_of, number_of, reply_of}
use Rattle.fx_pool.specs.declared.jobs.Done.{Done}
use Rattle.fx_pool.specs.declared.jobs.Job.{Job}
use Rattle.fx_pool.specs.declared.jobs.JobReply.{JobReply}
use Rattle.fx_pool.specs.declared.jobs.JobReply.TheVariants as reply
use Rattle.fx_pool.proofs.MoveLemmas.{followed, made_moved}
use Rattle.fx_pool.proofs.NumberLemmas.{all_moved, are_below, counted, counted_below, risen, times_both, times_kept, times_moved}
use Rattle.fx_pool.proofs.RunLemmas.{all_wanted}
use Rattle.fx_pool.proofs.WireLemmas.{after_itself}

-- ---- the jobs, by their numbers

read_from : (js : List Job) (a : ℕ) (get : ℕ → List Job) → ((k : ℕ) → get (a + k) ≡ at_most_one (slice_get js k)) → flat_map get (counted a (length js)) ≡ js
read_from [] a get h = refl
read_from (j ∷ js) a get h =
    let first : get a ≡ j ∷ [] = ap get (plus a) ∙ h 0 in
    let rest : flat_map get (counted (a + 1) (length js)) ≡ js = read_from js (a + 1) get (λ k. ap get (plus_one a k) ∙ h (suc k)) in
    ap (λ (v : List Job). v ++ flat_map get (counted (a + 1) (length js))) first ∙ ap (λ (v : List Job). j ∷ v) rest
  where
    plus : (m : ℕ) → m ≡ m + 0
    plus m = omega arith

    plus_one : (m k : ℕ) → (m + 1) + k ≡ m + suc k
    plus_one m k = omega arith

all_by_number : (jobs : List Job) → jobs_of jobs (counted 0 (length jobs)) ≡ jobs
all_by_number jobs = read_from jobs 0 (λ n. at_most_one (slice_get jobs n)) (λ k. ap (λ (m : ℕ). at_most_one (slice_get jobs m)) (zero-add k))

-- those past the jobs have none
of_below : (jobs : List Job) (ns : List ℕ) → jobs_of jobs ns ≡ jobs_of jobs (below (length jobs) ns)
of_below jobs [] = refl
of_below jobs (n ∷ ns) = by (ltb n (length jobs)) refl (of_below jobs ns)
  where
    high : ltb n (length jobs) ≡ false → length jobs ≤ n
    high is = grind (arith, nat_tests)

    by : (b : Bool) → ltb n (length jobs) ≡ b → jobs_of jobs ns ≡ jobs_of jobs (below (length jobs) ns) → jobs_of jobs (n ∷ ns) ≡ jobs_of jobs (cond b (n ∷ below (length jobs) ns) (below (length jobs) ns))
    by true e rest = ap (λ (v : List Job). at_most_one (slice_get jobs n) ++ v) rest
    by false e rest = ap (λ (o : Option Job). at_most_one o ++ jobs_of jobs ns) (slice_get_past jobs n (high e)) ∙ rest

-- ---- what was drawn once each is some of all

-- the numbers that weren't drawn
abbrev left_over : ℕ → List ℕ → List ℕ
left_over count ns = filter (λ n. eqb (times n ns) 0) (counted 0 count)

one_or_none : (x count word t l b : ℕ) → t ≡ once_below x word → b ≡ cond {A = ℕ} (ltb x count) t 0 → l ≡ cond {A = ℕ} (eqb t 0) (once_below x count) 0 → b + l ≡ once_below x count
one_or_none x count word t l b drawn low left = grind (arith, nat_tests)

all_numbers : (count word : ℕ) (ns : List ℕ) → ((x : ℕ) → times x ns ≡ once_below x word) → (x : ℕ) → times x (below count ns ++ left_over count ns) ≡ times x (counted 0 count)
all_numbers count word ns once x =
    times_both x (below count ns) (left_over count ns)
    ∙ one_or_none x count word (times x ns) (times x (left_over count ns)) (times x (below count ns)) (once x) (times_kept (λ n. ltb n count) x ns)
    (times_kept (λ n. eqb (times n ns) 0) x (counted 0 count) ∙ ap (λ (m : ℕ). cond {A = ℕ} (eqb (times x ns) 0) m 0) (counted_below x count))
    ∙ sym (counted_below x count)

module _ {Y : Type 0} (f : Job → List Y) (jobs : List Job) where
  through : (ns : List ℕ) → flat_map f (jobs_of jobs ns) ≡ flat_map (λ n. flat_map f (at_most_one (slice_get jobs n))) ns
  through [] = refl
  through (n ∷ ns) = flat_map-append f (at_most_one (slice_get jobs n)) (jobs_of jobs ns) ∙ ap (λ (v : List Y). flat_map f (at_most_one (slice_get jobs n)) ++ v) (through ns)

  -- what is made of the jobs drawn, and of those that weren't, is made of all
  pub made_of_all : (ns : List ℕ) (word : ℕ) → ((x : ℕ) → times x ns ≡ once_below x word)
      → IsPermutation (flat_map f (jobs_of jobs ns) ++ flat_map f (jobs_of jobs (left_over (length jobs) ns))) (flat_map f jobs)
  made_of_all ns word once =
      let count = length jobs in
      let g : ℕ → List Y = λ n. flat_map f (at_most_one (slice_get jobs n)) in
      let left : flat_map f (jobs_of jobs ns) ++ flat_map f (jobs_of jobs (left_over count ns)) ≡ flat_map g (below count ns ++ left_over count ns) =
      ap (λ (v : List Job). flat_map f v ++ flat_map f (jobs_of jobs (left_over count ns))) (of_below jobs ns)
      ∙ ap (λ (v : List Y). v ++ flat_map f (jobs_of jobs (left_over count ns))) (through (below count ns))
      ∙ ap (λ (v : List Y). flat_map g (below count ns) ++ v) (through (left_over count ns))
      ∙ sym (flat_map-append g (below count ns) (left_over count ns)) in
      let right : flat_map f jobs ≡ flat_map g (counted 0 count) = ap (flat_map f) (sym (all_by_number jobs)) ∙ through (counted 0 count) in
      let moved : IsPermutation (flat_map g (below count ns ++ left_over count ns)) (flat_map g (counted 0 count)) = all_moved g (below count ns ++ left_over count ns) (counted 0 count) (all_numbers count word ns once) in
      subst (λ (v : List Y). IsPermutation v (flat_map f jobs)) (sym left) (subst (λ (v : List Y). IsPermutation (flat_map g (below count ns ++ left_over count ns)) v) (sym right) moved)

-- ---- requests of jobs

abbrev request_in : List ℕ → Option EndpointParts → List Sent
request_in text None = []
request_in text (Some e) = record { at = e; request = request_of e text } ∷ []

abbrev requests_of : List EndpointParts → Job → List Sent
requests_of es j = request_in (text_of j.work) (slice_get es j.at)

one_wanted : (text : List ℕ) (o : Option EndpointParts) (s : Sent) → o ≡ Some s.at → s.request ≡ request_of s.at text → s ∷ [] ≡ request_in text o
one_wanted text None s found posts = absurd (cc)
one_wanted text (Some e) s found posts =
    let same : s.at ≡ e = cc in
    ap (λ (r : List ℕ). record { at = s.at; request = r } ∷ []) posts ∙ ap (λ (x : EndpointParts). record { at = x; request = request_of x text } ∷ []) same

wanted_are : (es : List EndpointParts) (js : List Job) (ws : List Sent) → AreWanted es js ws → ws ≡ flat_map (requests_of es) js
wanted_are es [] ws h = h
wanted_are es (j ∷ js) [] h = absurd h
wanted_are es (j ∷ js) (s ∷ ws) h =
    ap (λ (v : List Sent). s ∷ v) (wanted_are es js ws h.1) ∙ ap (λ (v : List Sent). v ++ flat_map (requests_of es) js) (one_wanted (text_of j.work) (slice_get es j.at) s h.0.found h.0.posts)

-- of the jobs drawn alone, none oftener than all have it
pub of_all_jobs : (es : List EndpointParts) (jobs : List Job) (ns : List ℕ) (word : ℕ) → ((x : ℕ) → times x ns ≡ once_below x word) → AllByRecursion (λ j. j.at < length es) jobs → (xs : List Exchange)
    → AreOfJobs es (jobs_of jobs ns) xs → AreOfJobs es jobs xs
of_all_jobs es jobs ns word once within xs h =
    let all = all_wanted es jobs within in
    let f : Job → List Sent = requests_of es in
    let more : List Sent = flat_map f (jobs_of jobs (left_over (length jobs) ns)) in
    let drawn : h.wanted ≡ flat_map f (jobs_of jobs ns) = wanted_are es (jobs_of jobs ns) h.wanted h.of_jobs in
    let whole : all.0 ≡ flat_map f jobs = wanted_are es jobs all.0 all.1 in
    let made : IsPermutation (h.wanted ++ more) all.0 =
    subst (λ (v : List Sent). IsPermutation (v ++ more) all.0) (sym drawn) (subst (λ (v : List Sent). IsPermutation (flat_map f (jobs_of jobs ns) ++ more) v) (sym whole) (made_of_all f jobs ns word once)) in
    let sent : IsPermutation ((map sent_of xs ++ h.left) ++ more) (h.wanted ++ more) = IsPermutation-append (map sent_of xs ++ h.left) h.wanted more more h.sent (IsPermutation-refl more) in
    record {
      wanted = all.0;
      of_jobs = all.1;
      left = h.left ++ more;
      sent = IsPermutation-trans (map sent_of xs ++ (h.left ++ more)) (h.wanted ++ more) all.0 (subst (λ (v : List Sent). IsPermutation v (h.wanted ++ more)) (append_assoc (map sent_of xs) h.left more) sent) made;
    }

-- ---- counts

abbrev counts_at : List EndpointParts → List ℕ → Job → ℕ
counts_at es address j = cond {A = ℕ} (is_at address (slice_get es j.at)) 1 0

jobs_are : (es : List EndpointParts) (address : List ℕ) (js : List Job) → jobs_at es address js ≡ sum_by (counts_at es address) js
jobs_are es address [] = refl
jobs_are es address (j ∷ js) =
    let rest : jobs_at es address js ≡ sum_by (counts_at es address) js = jobs_are es address js in
    omega (arith, rest, sum_by-cons (counts_at es address) j js)

alone_made : (xs : List Job) → flat_map (λ (j : Job). j ∷ []) xs ≡ xs
alone_made [] = refl
alone_made (j ∷ js) = ap (λ (v : List Job). j ∷ v) (alone_made js)

pub fewer_jobs : (es : List EndpointParts) (address : List ℕ) (jobs : List Job) (ns : List ℕ) (word : ℕ) → ((x : ℕ) → times x ns ≡ once_below x word) → jobs_at es address (jobs_of jobs ns) ≤ jobs_at es address jobs
fewer_jobs es address jobs ns word once =
    let itself : Job → List Job = λ j. j ∷ [] in
    let rest = jobs_of jobs (left_over (length jobs) ns) in
    let moved : IsPermutation (jobs_of jobs ns ++ rest) jobs =
    subst (λ (v : List Job). IsPermutation (v ++ rest) jobs) (alone_made (jobs_of jobs ns))
    (subst (λ (v : List Job). IsPermutation (flat_map itself (jobs_of jobs ns) ++ v) jobs) (alone_made rest) (subst (λ (v : List Job). IsPermutation (flat_map itself (jobs_of jobs ns) ++ flat_map itself rest) v) (alone_made jobs) (made_of_all itself jobs ns word once))) in
    let whole : sum_by (counts_at es address) jobs ≡ sum_by (counts_at es address) (jobs_of jobs ns ++ rest) = sum_by-IsPermutation (counts_at es address) (jobs_of jobs ns ++ rest) jobs moved in
    omega (arith, whole, sum_by-append (counts_at es address) (jobs_of jobs ns) rest, jobs_are es address jobs, jobs_are es address (jobs_of jobs ns))

-- ---- replies, each by the number of its job

abbrev at_of : List EndpointParts → Option Job → Option EndpointParts
at_of es None = None
at_of es (Some j) = slice_get es j.at

abbrev fails_at : List EndpointParts → List Job → List ℕ → Done → ℕ
fails_at es jobs address d = cond {A = ℕ} (is_at address (at_of es (slice_get jobs d.number))) (is_failure d.reply) 0

module _ (es : List EndpointParts) (jobs : List Job) where
  -- what was done, with its own exchanges
  abbrev Traced : Done × List Exchange → Type 0
  Traced t = (j : Job) × (slice_get jobs t.0.number ≡ Some j) × IsDone es j t.0.reply t.1

  abbrev done_in : Done × List Exchange → Done
  done_in t = t.0

  abbrev own_in : Done × List Exchange → List Exchange
  own_in t = t.1

  record Traces (ds : List Done) (xs : List Exchange) : Type 0 where
    pub list : List (Done × List Exchange)
    pub made : map done_in list ≡ ds
    pub exchanged : flat_map own_in list ≡ xs
    pub traced : AllByRecursion Traced list

  traces : (ds : List Done) (xs : List Exchange) → AllByRecursion (λ (d : Done). d.number < length jobs) ds → AreDone es (jobs_of jobs (map number_of ds)) (map reply_of ds) xs → Traces ds xs
  traces [] xs low h = record { list = []; made = refl; exchanged = sym h; traced = tt }
  traces (d ∷ ds) xs low h = by (slice_get_cases jobs d.number).1 (λ ys k. traces ds ys low.1 k)
    where
      Later : Type 0
      Later = (ys : List Exchange) → AreDone es (jobs_of jobs (map number_of ds)) (map reply_of ds) ys → Traces ds ys

      Rest : Option Job → Type 0
      Rest o = AreDone es (at_most_one o ++ jobs_of jobs (map number_of ds)) (d.reply ∷ map reply_of ds) xs

      with_job : Later → (j : Job) → slice_get jobs d.number ≡ Some j → Rest (Some j) → Traces (d ∷ ds) xs
      with_job later j at k =
          let rest = later k.1 k.4 in
          record {
            list = (d, k.0) ∷ rest.list;
            made = ap (λ (v : List Done). d ∷ v) rest.made;
            exchanged = ap (λ (v : List Exchange). k.0 ++ v) rest.exchanged ∙ sym k.2;
            traced = ((j, at, k.3), rest.traced);
          }

      by : ((j : Job) × (d.number < length jobs) × (slice_get jobs d.number ≡ Some j) × (get_or jobs d.number j ≡ j)) ⊎ ((length jobs ≤ d.number) × (slice_get jobs d.number ≡ None)) → Later → Traces (d ∷ ds) xs
      by (inl e) later = with_job later e.0 e.2 (subst Rest e.2 h)
      by (inr high) later = let past_it : length jobs ≤ d.number = high.0 in let below_it : d.number < length jobs = low.0 in absurd (omega (arith, past_it, below_it))

  -- and back, where they stand in the order of the jobs
  back : (js : List Job) (a : ℕ) → ((k : ℕ) → slice_get jobs (a + k) ≡ slice_get js k) → (ts : List (Done × List Exchange)) → map number_of (map done_in ts) ≡ counted a (length js) → AllByRecursion Traced ts
      → AreDone es js (map reply_of (map done_in ts)) (flat_map own_in ts)
  back [] a same [] is h = refl
  back [] a same (t ∷ ts) is h = absurd (cc)
  back (j ∷ js) a same [] is h = absurd (cc)
  back (j ∷ js) a same (t ∷ ts) is h =
      let number : t.0.number ≡ a = cc in
      let rest : map number_of (map done_in ts) ≡ counted (a + 1) (length js) = cc in
      let at : slice_get jobs t.0.number ≡ Some j = ap (slice_get jobs) (number ∙ plus a) ∙ same 0 in
      let one : h.0.0 ≡ j = some_is (sym h.0.1 ∙ at) in
      (t.1, flat_map own_in ts, refl, subst (λ (v : Job). IsDone es v t.0.reply t.1) one h.0.2, back js (a + 1) (λ k. ap (slice_get jobs) (plus_one a k) ∙ same (suc k)) ts rest h.1)
    where
      plus : (m : ℕ) → m ≡ m + 0
      plus m = omega arith

      plus_one : (m k : ℕ) → (m + 1) + k ≡ m + suc k
      plus_one m k = omega arith

      some_is : {p q : Job} → Some p ≡ Some q → p ≡ q
      some_is e = cc

  -- ---- failures

  failures_drawn : (address : List ℕ) (ds : List Done) → AllByRecursion (λ (d : Done). d.number < length jobs) ds
      → failures_at es address (jobs_of jobs (map number_of ds)) (map reply_of ds) ≡ sum_by (fails_at es jobs address) ds
  failures_drawn address [] low = refl
  failures_drawn address (d ∷ ds) low = by (slice_get_cases jobs d.number).1 (failures_drawn address ds low.1)
    where
      Goal : Option Job → Type 0
      Goal o = failures_at es address (at_most_one o ++ jobs_of jobs (map number_of ds)) (d.reply ∷ map reply_of ds) ≡ cond {A = ℕ} (is_at address (at_of es o)) (is_failure d.reply) 0 + sum_by (fails_at es jobs address) ds

      by : ((j : Job) × (d.number < length jobs) × (slice_get jobs d.number ≡ Some j) × (get_or jobs d.number j ≡ j)) ⊎ ((length jobs ≤ d.number) × (slice_get jobs d.number ≡ None))
          → failures_at es address (jobs_of jobs (map number_of ds)) (map reply_of ds) ≡ sum_by (fails_at es jobs address) ds
          → failures_at es address (jobs_of jobs (map number_of (d ∷ ds))) (map reply_of (d ∷ ds)) ≡ sum_by (fails_at es jobs address) (d ∷ ds)
      by (inl e) rest =
          let here : Goal (Some e.0) = ap (λ (m : ℕ). cond {A = ℕ} (is_at address (slice_get es e.0.at)) (is_failure d.reply) 0 + m) rest in
          subst Goal (sym e.2) here ∙ sym (sum_by-cons (fails_at es jobs address) d ds)
      by (inr high) rest = let past_it : length jobs ≤ d.number = high.0 in let below_it : d.number < length jobs = low.0 in absurd (omega (arith, past_it, below_it))

  failures_in_order : (address : List ℕ) (js : List Job) (a : ℕ) → ((k : ℕ) → slice_get jobs (a + k) ≡ slice_get js k) → (ds : List Done) → map number_of ds ≡ counted a (length js)
      → failures_at es address js (map reply_of ds) ≡ sum_by (fails_at es jobs address) ds
  failures_in_order address [] a same [] is = refl
  failures_in_order address [] a same (d ∷ ds) is = absurd (cc)
  failures_in_order address (j ∷ js) a same [] is = absurd (cc)
  failures_in_order address (j ∷ js) a same (d ∷ ds) is =
      let number : d.number ≡ a = cc in
      let rest_is : map number_of ds ≡ counted (a + 1) (length js) = cc in
      let at : slice_get jobs d.number ≡ Some j = ap (slice_get jobs) (number ∙ plus a) ∙ same 0 in
      let rest : failures_at es address js (map reply_of ds) ≡ sum_by (fails_at es jobs address) ds = failures_in_order address js (a + 1) (λ k. ap (slice_get jobs) (plus_one a k) ∙ same (suc k)) ds rest_is in
      let here : fails_at es jobs address d ≡ cond {A = ℕ} (is_at address (slice_get es j.at)) (is_failure d.reply) 0 = ap (λ (o : Option Job). cond {A = ℕ} (is_at address (at_of es o)) (is_failure d.reply) 0) at in
      omega (arith, rest, here, sum_by-cons (fails_at es jobs address) d ds)
    where
      plus : (m : ℕ) → m ≡ m + 0
      plus m = omega arith

      plus_one : (m k : ℕ) → (m + 1) + k ≡ m + suc k
      plus_one m k = omega arith

-- ---- all of it

low_numbers : (count : ℕ) (ds : List Done) → AllByRecursion (λ n. n < count) (map number_of ds) → AllByRecursion (λ (d : Done). d.number < count) ds
low_numbers count [] h = tt
low_numbers count (d ∷ ds) h = (h.0, low_numbers count ds h.1)

moved_low : (count : ℕ) (xs ys : List Done) → IsPermutation xs ys → AllByRecursion (λ (d : Done). d.number < count) xs → AllByRecursion (λ (d : Done). d.number < count) ys
moved_low count xs ys p h =
    recursion_from_All (λ (d : Done). d.number < count) ys (All-permutation (λ (d : Done). d.number < count) xs ys p (All-from_recursion (λ (d : Done). d.number < count) xs h))

drawn_once : (x count word t : ℕ) → count < word → t ≡ once_below x word → cond {A = ℕ} (ltb x count) t 0 ≡ once_below x count
drawn_once x count word t high is = grind (arith, nat_tests)

no_exchange : Done × List Exchange
no_exchange = (record { number = 0; reply = reply.Failed }, [])

module _ (tells alone : Bool) (s t : List Seen) (es : List EndpointParts) (jobs : List Job) (within : All (λ j. j.at < length es) jobs) (ns : List ℕ) (word : ℕ) (once : (x : ℕ) → times x ns ≡ once_below x word) where
  abbrev held : AllByRecursion (λ j. j.at < length es) jobs
  held = recursion_from_All (λ (j : Job). j.at < length es) jobs within

  -- memory ran out
  pub ended_early : WiresDid tells alone s t es (jobs_of jobs ns) None → WiresDid tells alone s t es jobs None
  ended_early h = record {
    exchanges = h.exchanges;
    gained = h.gained;
    honest = h.honest;
    left = h.left;
    of_jobs = of_all_jobs es jobs ns word once held h.exchanges h.of_jobs;
    done = tt;
    counted = tt;
    few = λ is address. omega (arith, h.few is address, fewer_jobs es address jobs ns word once);
    exact = λ is. tt;
  }

  module _ (ds : List Done) (high : length jobs < word) (all : map number_of ds ≡ below (length jobs) ns) (h : WiresDid tells alone s t es (jobs_of jobs ns) (Some (map reply_of ds))) where
    abbrev low : AllByRecursion (λ (d : Done). d.number < length jobs) ds
    low = low_numbers (length jobs) ds (subst (AllByRecursion (λ n. n < length jobs)) (sym all) (are_below (length jobs) ns))

    numbers_are : (x : ℕ) → times x (map number_of ds) ≡ times x (counted 0 (length jobs))
    numbers_are x =
        ap (times x) all
        ∙ times_kept (λ n. ltb n (length jobs)) x ns
        ∙ drawn_once x (length jobs) word (times x ns) high (once x)
        ∙ sym (counted_below x (length jobs))

    drawn : jobs_of jobs ns ≡ jobs_of jobs (map number_of ds)
    drawn = of_below jobs ns ∙ ap (jobs_of jobs) (sym all)

    module _ (qs : List JobReply) (o : AreInOrder ds qs) where
      in_order_numbers : map number_of o.ordered ≡ counted 0 (length jobs)
      in_order_numbers =
          risen number_of 0 (length jobs) o.ordered o.rising
          (λ x. times_moved x (map number_of ds) (map number_of o.ordered) (IsPermutation-map number_of ds o.ordered o.same) ∙ numbers_are x)

      failures_same : (address : List ℕ) → failures_at es address jobs qs ≡ failures_at es address (jobs_of jobs ns) (map reply_of ds)
      failures_same address =
          ap (failures_at es address jobs) o.taken
          ∙ failures_in_order es jobs address jobs 0 (λ k. ap (slice_get jobs) (zero-add k)) o.ordered in_order_numbers
          ∙ sum_by-IsPermutation (fails_at es jobs address) ds o.ordered o.same
          ∙ sym (failures_drawn es jobs address ds low)
          ∙ ap (λ (v : List Job). failures_at es address v (map reply_of ds)) (sym drawn)

      done_so : AreDoneInSome es jobs qs h.exchanges
      done_so =
          let ts = traces es jobs ds h.done.0 low (subst (λ (v : List Job). AreDone es v (map reply_of ds) h.done.0) drawn h.done.1) in
          let moved = followed (done_in es jobs) ts.list o.ordered (subst (λ (v : List Done). IsPermutation v o.ordered) (sym ts.made) o.same) in
          let traced : AllByRecursion (Traced es jobs) moved.list =
          recursion_from_All (Traced es jobs) moved.list (All-permutation (Traced es jobs) ts.list moved.list moved.same (All-from_recursion (Traced es jobs) ts.list ts.traced)) in
          let numbers : map number_of (map (done_in es jobs) moved.list) ≡ counted 0 (length jobs) = ap (map number_of) moved.makes ∙ in_order_numbers in
          let done = back es jobs jobs 0 (λ k. ap (slice_get jobs) (zero-add k)) moved.list numbers traced in
          let replies : map reply_of (map (done_in es jobs) moved.list) ≡ qs = ap (map reply_of) moved.makes ∙ sym o.taken in
          let same : IsPermutation (flat_map (own_in es jobs) ts.list) (flat_map (own_in es jobs) moved.list) = made_moved no_exchange (own_in es jobs) ts.list moved.list moved.same in
          let first : IsPermutation h.done.0 (flat_map (own_in es jobs) moved.list) = subst (λ (v : List Exchange). IsPermutation v (flat_map (own_in es jobs) moved.list)) ts.exchanged same in (
            flat_map (own_in es jobs) moved.list,
            subst (λ (v : List JobReply). AreDone es jobs v (flat_map (own_in es jobs) moved.list)) replies done,
            IsPermutation-trans (flat_map (own_in es jobs) moved.list) h.done.0 h.exchanges (IsPermutation-sym h.done.0 (flat_map (own_in es jobs) moved.list) first) h.done.2,
          )

      -- each job has its reply
      pub all_done : WiresDid tells alone s t es jobs (Some qs)
      all_done = record {
        exchanges = h.exchanges;
        gained = h.gained;
        honest = h.honest;
        left = h.left;
        of_jobs = of_all_jobs es jobs ns word once held h.exchanges h.of_jobs;
        done = done_so;
        counted = λ address. let k : faults_at s address + failures_at es address (jobs_of jobs ns) (map reply_of ds) ≤ faults_at t address = h.counted address in omega (arith, k, failures_same address);
        few = λ is address. omega (arith, h.few is address, fewer_jobs es address jobs ns word once);
        exact = λ is address. let k : faults_at t address ≡ faults_at s address + failures_at es address (jobs_of jobs ns) (map reply_of ds) = h.exact is address in omega (arith, k, failures_same address);
      }

    -- the replies are lost
    pub lost : WiresDid tells alone s t es jobs None
    lost = ended_early record {
      exchanges = h.exchanges;
      gained = h.gained;
      honest = h.honest;
      left = h.left;
      of_jobs = h.of_jobs;
      done = tt;
      counted = tt;
      few = h.few;
      exact = λ is. tt;
    }

-- what is answered, by whether there is memory for the replies
pub ended : (tells alone : Bool) (s t : List Seen) (es : List EndpointParts) (jobs : List Job) → All (λ j. j.at < length es) jobs → (ns : List ℕ) (word : ℕ) → ((x : ℕ) → times x ns ≡ once_below x word) → (ds : List Done)
    → length jobs < word → map number_of ds ≡ below (length jobs) ns → WiresDid tells alone s t es (jobs_of jobs ns) (Some (map reply_of ds)) → (result : Result (Vec JobReply Global) Memory) → IfOk result (λ replies. AreInOrder ds replies.items)
    → WiresDid tells alone s t es jobs (all_replies result)
ended tells alone s t es jobs within ns word once ds high all h (Ok replies) o = all_done tells alone s t es jobs within ns word once ds high all h replies.items o
ended tells alone s t es jobs within ns word once ds high all h (Err why) o = lost tells alone s t es jobs within ns word once ds high all h

-- there was no memory for a word: nothing was done
pub nothing_done : (tells alone : Bool) (s : List Seen) (es : List EndpointParts) (jobs : List Job) → All (λ j. j.at < length es) jobs → WiresDid tells alone s s es jobs None
nothing_done tells alone s es jobs within =
    let all = all_wanted es jobs (recursion_from_All (λ (j : Job). j.at < length es) jobs within) in
    record {
      exchanges = [];
      gained = λ told. gain_laws.nothing s;
      honest = All-from_recursion (IsHonestOver s) [] tt;
      left = after_itself s;
      of_jobs = record { wanted = all.0; of_jobs = all.1; left = all.0; sent = IsPermutation-refl all.0 };
      done = tt;
      counted = tt;
      few = λ is address. omega arith;
      exact = λ is. tt;
    }
