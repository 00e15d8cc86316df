-- A batch in the forms in which the members of a unit take it.
use Rattle.std.proofs.Common.{◌≡◌, ◌∙◌, ap, subst, sym, refl, ◌<◌, ◌||◌, Bool, true, false, not, cond, ℕ, length, List, [], ◌∷◌, Option, Some, None, IfSome, IfOk, All, Result, Ok, Err, Contains, slice_get}
use Rattle.std.specs.List.{AllByRecursion, list_any}
use Rattle.std.specs.Option.{option_map}
use Rattle.std.proofs.lemmas.List.Elements.{All-from_recursion, recursion_from_All}
use Rattle.fx_outside.specs.Endpoints.{EndpointParts}
use Rattle.fx_grammar.specs.Accepted.{Accepted}
use Rattle.fx_bound.specs.Answers.{numbers}
use Rattle.fx_bound.specs.Parts.{IsBatch, Parts, query_of, text_of}
use Rattle.fx_founds.specs.declared.founds.Found.{Found}
use Rattle.fx_values.specs.Answers as answers
use Rattle.fx_values.specs.Parts as values
use Rattle.fx_traffic.specs.Batches.{block_of}
use Rattle.fx_pool.specs.Jobs.{kind_by}
use Rattle.fx_pool.specs.Reading.{GivesFound, GivesLocated, carried_for, carried_in}
use Rattle.fx_pool.specs.declared.faults.ReadError.{ReadError}
use Rattle.fx_pool.specs.declared.faults.ReadError.TheVariants.{Bad, Memory}
use Rattle.fx_pool.specs.declared.jobs.JobKind.TheVariants as kind
use Rattle.fx_flows.specs.Forms.{CanAsk, Formed, IsBlockText, IsReadIn, IsTextIn, has_form, takes_form}

-- ---- which form a member takes

or_left : (a b : Bool) → a ≡ true → a || b ≡ true
or_left a b h = ap (λ (v : Bool). v || b) h

or_right : (a b : Bool) → b ≡ true → a || b ≡ true
or_right true b h = refl
or_right false b h = h

-- whether there is a form
abbrev stands : Formed → Bool → Bool
stands f true = f.values
stands f false = f.plain

module _ (es : List EndpointParts) (f : Formed) where
  abbrev wanted : Bool → List ℕ → Bool
  wanted form ms = list_any (λ at. takes_form form (slice_get es at)) ms

  one_formed : (at : ℕ) → ((form : Bool) → takes_form form (slice_get es at) ≡ true → stands f form ≡ true) → (e : EndpointParts) → slice_get es at ≡ Some e → has_form f e ≡ true
  one_formed at k e found = by e.values refl
    where
      by : (form : Bool) → e.values ≡ form → has_form f e ≡ true
      by true is = ap (λ (b : Bool). cond b f.values f.plain) is ∙ k true (ap (takes_form true) found ∙ is)
      by false is = ap (λ (b : Bool). cond b f.values f.plain) is ∙ k false (ap (takes_form false) found ∙ ap not is)

  each_formed : (ms : List ℕ) → AllByRecursion (λ at. at < length es) ms → ((form : Bool) → wanted form ms ≡ true → stands f form ≡ true) → AllByRecursion (CanAsk es f) ms
  each_formed [] h k = tt
  each_formed (m ∷ ms) h k = (
    record { below = h.0; formed = one_formed m (λ form t. k form (or_left (takes_form form (slice_get es m)) (wanted form ms) t)) },
    each_formed ms h.1 (λ form t. k form (or_right (takes_form form (slice_get es m)) (wanted form ms) t)),
  )

  -- where there is each form that one of the members takes, each can be asked
  pub all_formed : (ms : List ℕ) → All (λ at. at < length es) ms → f.plain ≡ wanted false ms → f.values ≡ wanted true ms → All (CanAsk es f) ms
  all_formed ms within plain block = All-from_recursion (CanAsk es f) ms (each_formed ms (recursion_from_All (λ at. at < length es) ms within) by)
    where
      by : (form : Bool) → wanted form ms ≡ true → stands f form ≡ true
      by true h = block ∙ h
      by false h = plain ∙ h

-- ---- texts

pub block_text_is : {S : Type 0} (text : Option S) (now : S → List ℕ) (v : values.Parts) → option_map now text ≡ values.text_of v → IfSome text (λ t. Accepted (now t) (values.query_of v)) → values.IsValues v → IsBlockText v (option_map now text)
block_text_is None now v exact accepted known = record { exact = sym exact; accepted = tt; known = known }
block_text_is (Some t) now v exact accepted known = record { exact = sym exact; accepted = accepted; known = known }

pub plain_text_is : {S : Type 0} (text : Option S) (now : S → List ℕ) (p : Parts) → option_map now text ≡ text_of p → IfSome text (λ t. Accepted (now t) (query_of p)) → IsBatch p → IsTextIn false p (option_map now text)
plain_text_is None now p exact accepted known = record { exact = sym exact; accepted = tt; known = known }
plain_text_is (Some t) now p exact accepted known = record { exact = sym exact; accepted = accepted; known = known }

-- what is kept of a form that stands
pub block_kept : (o : Option values.Parts) (v : values.Parts) (q p : Parts) → o ≡ Some v → IfSome o (λ b. b ≡ block_of q) → q ≡ p → v ≡ block_of p
block_kept o v q p is kept same = subst (λ (w : Option values.Parts). IfSome w (λ b. b ≡ block_of q)) is kept ∙ ap block_of same

pub plain_kept : (o : Option Parts) (b q p : Parts) → o ≡ Some b → IfSome o (λ c. c ≡ q) → q ≡ p → b ≡ p
plain_kept o b q p is kept same = subst (λ (w : Option Parts). IfSome w (λ c. c ≡ q)) is kept ∙ same

module _ (e : EndpointParts) (p : Parts) where
  pub text_by_block : e.values ≡ true → (v : values.Parts) → v ≡ block_of p → (text : Option (List ℕ)) → IsBlockText v text → IsTextIn e.values p text
  text_by_block takes v is text h =
      let k = subst (λ (w : values.Parts). IsBlockText w text) is h in
      subst (λ (form : Bool). IsTextIn form p text) (sym takes) (record { exact = k.exact; accepted = k.accepted; known = k.known })

  pub text_by_branches : e.values ≡ false → (b : Parts) → b ≡ p → (text : Option (List ℕ)) → IsTextIn false b text → IsTextIn e.values p text
  text_by_branches takes b is text h = subst (λ (form : Bool). IsTextIn form p text) (sym takes) (subst (λ (w : Parts). IsTextIn false w text) is h)

  -- ---- replies

  located : (reply : List ℕ) (result : Result (List Found) ReadError) → GivesLocated reply (block_of p) result → IfOk result (λ founds. All (λ (f : Found). Contains (answers.numbers (block_of p)) f.branch) founds) → IsReadIn (carried_in true p) p reply result
  located reply (Ok founds) h k = (h, k)
  located reply (Err (Bad why)) h k = h
  located reply (Err Memory) h k = tt

  branched : (reply : List ℕ) (result : Result (List Found) ReadError) → GivesFound reply p result → IfOk result (λ founds. All (λ (f : Found). Contains (numbers p) f.branch) founds) → IsReadIn (carried_in false p) p reply result
  branched reply (Ok founds) h k = (h, k)
  branched reply (Err (Bad why)) h k = h
  branched reply (Err Memory) h k = tt

  pub read_by_block : e.values ≡ true → (v : values.Parts) → v ≡ block_of p → (reply : List ℕ) (result : Result (List Found) ReadError) → GivesLocated reply v result
      → IfOk result (λ founds. All (λ (f : Found). Contains (answers.numbers v) f.branch) founds) → IsReadIn (carried_for e p) p reply result
  read_by_block takes v is reply result h k =
      subst (λ (form : Bool). IsReadIn (carried_in form p) p reply result) (sym takes)
      (located reply result (subst (λ (w : values.Parts). GivesLocated reply w result) is h) (subst (λ (w : values.Parts). IfOk result (λ founds. All (λ (f : Found). Contains (answers.numbers w) f.branch) founds)) is k))

  pub read_by_branches : e.values ≡ false → (b : Parts) → b ≡ p → (reply : List ℕ) (result : Result (List Found) ReadError) → GivesFound reply b result
      → IfOk result (λ founds. All (λ (f : Found). Contains (numbers b) f.branch) founds) → IsReadIn (carried_for e p) p reply result
  read_by_branches takes b is reply result h k =
      subst (λ (form : Bool). IsReadIn (carried_in form p) p reply result) (sym takes)
      (branched reply result (subst (λ (w : Parts). GivesFound reply w result) is h) (subst (λ (w : Parts). IfOk result (λ founds. All (λ (f : Found). Contains (numbers w) f.branch) founds)) is k))

-- ---- the kind of what is asked for

pub kind_of_block : (e : EndpointParts) → e.values ≡ true → (p : Parts) → kind.Values ≡ kind_by (carried_for e p)
kind_of_block e takes p = ap (λ (form : Bool). kind_by (carried_in form p)) (sym takes)

pub kind_of_branches : (e : EndpointParts) → e.values ≡ false → (p : Parts) → kind.Batch ≡ kind_by (carried_for e p)
kind_of_branches e takes p = ap (λ (form : Bool). kind_by (carried_in form p)) (sym takes)
