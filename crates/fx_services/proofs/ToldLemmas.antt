-- The jobs of occurrences of SERVICE, and what their replies tell, one occurrence after the other.
use Rattle.std.proofs.Common.{◌≡◌, ◌∙◌, ap, sym, subst, refl, ℕ, suc, ◌+◌, ◌<◌, List, [], ◌∷◌, ◌++◌, Bool, true, false, length, get_or, take, drop, Option, None, Some, Ok, Err, arith, append-nil, append_assoc}
use Rattle.std.proofs.lemmas.Grind.{flat_map-append}
use Rattle.std.proofs.lemmas.List.{drop_more, take_more}
use Rattle.fx_outside.specs.Endpoints.{EndpointParts}
use Rattle.fx_algebra.specs.Solutions.{Bindings}
use Rattle.fx_sources.specs.Registries.{number_of}
use Rattle.fx_pool.specs.declared.jobs.Job.{Job}
use Rattle.fx_pool.specs.declared.jobs.JobReply.{JobReply}
use Rattle.fx_services.specs.Beside.{AreRepliesFor, AreToldOf, Came, HavePassed, IsFirstRefusal, IsReplyFor, IsToldOf, Occurrence, job_if, jobs_for, jobs_of}
use Rattle.fx_services.specs.Noted.{ComesTo}
use Rattle.fx_services.specs.declared.noted.Down.{Down}
use Rattle.fx_services.specs.declared.services.ServiceError.{ServiceError}
use Rattle.fx_services.specs.ServicesAsked.{IsForService, IsOneForService, IsRowsOf}
use Rattle.fx_services.specs.declared.services.ServiceError.TheVariants as error

module _ (es : List EndpointParts) (os : List Occurrence) (k : ℕ) (o : Occurrence) (lt : k < length os) (is : o ≡ get_or os k o) where
  pub jobs_more : (n : Option ℕ) → number_of o.iri es ≡ n → jobs_of es (take (k + 1) os) ≡ jobs_of es (take k os) ++ job_if n o.group
  jobs_more n e =
      ap (jobs_of es) (take_more os k o lt ∙ ap (λ (v : Occurrence). take k os ++ v ∷ []) (sym is))
      ∙ flat_map-append (jobs_for es) (take k os) (o ∷ [])
      ∙ ap (λ (v : List Job). jobs_of es (take k os) ++ v) (append-nil (jobs_for es o) ∙ ap (λ (m : Option ℕ). job_if m o.group) e)

  next : drop k os ≡ o ∷ drop (k + 1) os
  next = drop_more os k o lt ∙ ap (λ (v : Occurrence). v ∷ drop (k + 1) os) (sym is)

  -- ---- an unknown one

  pub fits_unknown : (rs : List JobReply) → number_of o.iri es ≡ None → AreRepliesFor es (drop k os) rs → AreRepliesFor es (drop (k + 1) os) rs
  fits_unknown rs e h = by (subst (λ (v : List Occurrence). AreRepliesFor es v rs) next h)
    where
      by : AreRepliesFor es (o ∷ drop (k + 1) os) rs → AreRepliesFor es (drop (k + 1) os) rs
      by f =
          let none : f.0 ≡ [] = subst (λ (m : Option ℕ). IsReplyFor m f.0) e f.3 in
          subst (AreRepliesFor es (drop (k + 1) os)) (sym (f.2 ∙ ap (λ (v : List JobReply). v ++ f.1) none)) f.4

  pub told_unknown : (rs : List JobReply) (c : Came) (more : List Came) → number_of o.iri es ≡ None → c ≡ Err error.Unknown → AreToldOf es (drop (k + 1) os) rs more → AreToldOf es (drop k os) rs (c ∷ more)
  told_unknown rs c more e unknown t =
      subst (λ (v : List Occurrence). AreToldOf es v rs (c ∷ more)) (sym next) ([], rs, refl, subst (λ (m : Option ℕ). IsToldOf m [] c) (sym e) (refl, unknown), t)

  -- ---- a known one

  pub record Reply (rs : List JobReply) : Type 0 where
    pub reply : JobReply
    pub rest : List JobReply
    pub are : rs ≡ reply ∷ rest
    pub fits : IsForService reply
    pub others : AreRepliesFor es (drop (k + 1) os) rest

  pub fits_known : (rs : List JobReply) (at : ℕ) → number_of o.iri es ≡ Some at → AreRepliesFor es (drop k os) rs → Reply rs
  fits_known rs at e h = by (subst (λ (v : List Occurrence). AreRepliesFor es v rs) next h)
    where
      one : (own rest : List JobReply) → rs ≡ own ++ rest → IsOneForService own → AreRepliesFor es (drop (k + 1) os) rest → Reply rs
      one [] rest is f others = absurd f
      one (r ∷ []) rest is f others = record { reply = r; rest = rest; are = is; fits = f; others = others }
      one (r ∷ s ∷ own) rest is f others = absurd f

      by : AreRepliesFor es (o ∷ drop (k + 1) os) rs → Reply rs
      by f = one f.0 f.1 f.2 (subst (λ (m : Option ℕ). IsReplyFor m f.0) e f.3) f.4

  pub told_known : (r : JobReply) (rs : List JobReply) (at : ℕ) (c : Came) (more : List Came) → number_of o.iri es ≡ Some at → IsRowsOf at r c → AreToldOf es (drop (k + 1) os) rs more → AreToldOf es (drop k os) (r ∷ rs) (c ∷ more)
  told_known r rs at c more e told t =
      subst (λ (v : List Occurrence). AreToldOf es v (r ∷ rs) (c ∷ more)) (sym next) (r ∷ [], rs, refl, subst (λ (m : Option ℕ). IsToldOf m (r ∷ []) c) (sym e) told, t)

-- with the next reply taken
pub known_reply : (es : List EndpointParts) (os : List Occurrence) (k : ℕ) (o : Occurrence) (lt : k < length os) (is : o ≡ get_or os k o) (rs : List JobReply) (at : ℕ) (r : JobReply) (rest : List JobReply)
    → number_of o.iri es ≡ Some at → AreRepliesFor es (drop k os) rs → rs ≡ r ∷ rest → IsForService r × AreRepliesFor es (drop (k + 1) os) rest
known_reply es os k o lt is rs at r rest e h taken =
    let f = fits_known es os k o lt is rs at e h in
    let both : f.reply ∷ f.rest ≡ r ∷ rest = sym f.are ∙ taken in
    let head : f.reply ≡ r = cc in
    let tail : f.rest ≡ rest = cc in
    (subst IsForService head f.fits, subst (AreRepliesFor es (drop (k + 1) os)) tail f.others)

pub one_more : (came : List Came) (c : Came) (more : List Came) → (came ++ c ∷ []) ++ more ≡ came ++ (c ∷ more)
one_more came c more = append_assoc came (c ∷ []) more

-- ---- what the query goes on with

module _ (os : List Occurrence) (k : ℕ) (o : Occurrence) (lt : k < length os) (is : o ≡ get_or os k o) (cs : List Came) (c : Came) (others : List Came) (taken : cs ≡ c ∷ others) (old mid : List Down) (rows : List Bindings) (came : ComesTo k o.silent o.iri old mid c (Ok rows)) where
  left : drop k os ≡ o ∷ drop (k + 1) os
  left = drop_more os k o lt ∙ ap (λ (v : Occurrence). v ∷ drop (k + 1) os) (sym is)

  up : k + 1 ≡ suc k
  up = omega arith

  pub passed_on : (new : List Down) (more : List (List Bindings)) → HavePassed (k + 1) (drop (k + 1) os) others mid new more → HavePassed k (drop k os) cs old new (rows ∷ more)
  passed_on new more h =
      subst (λ (v : List Occurrence). HavePassed k v cs old new (rows ∷ more)) (sym left)
      (subst (λ (v : List Came). HavePassed k (o ∷ drop (k + 1) os) v old new (rows ∷ more)) (sym taken)
      (mid, came, subst (λ (n : ℕ). HavePassed n (drop (k + 1) os) others mid new more) up h))

  pub refused_on : (new : List Down) (more : List (List Bindings)) (e : ServiceError) → IsFirstRefusal (k + 1) (drop (k + 1) os) others mid new more e → IsFirstRefusal k (drop k os) cs old new (rows ∷ more) e
  refused_on new more e h =
      subst (λ (v : List Occurrence). IsFirstRefusal k v cs old new (rows ∷ more) e) (sym left)
      (subst (λ (v : List Came). IsFirstRefusal k (o ∷ drop (k + 1) os) v old new (rows ∷ more) e) (sym taken)
      (mid, came, subst (λ (n : ℕ). IsFirstRefusal n (drop (k + 1) os) others mid new more e) up h))

-- the next is refused
pub refused_here : (os : List Occurrence) (k : ℕ) (o : Occurrence) (lt : k < length os) (is : o ≡ get_or os k o) (cs : List Came) (c : Came) (others : List Came) (taken : cs ≡ c ∷ others) (old mid : List Down) (e : ServiceError)
    → ComesTo k o.silent o.iri old mid c (Err e) → IsFirstRefusal k (drop k os) cs old mid [] e
refused_here os k o lt is cs c others taken old mid e came =
    let left : drop k os ≡ o ∷ drop (k + 1) os = drop_more os k o lt ∙ ap (λ (v : Occurrence). v ∷ drop (k + 1) os) (sym is) in
    subst (λ (v : List Occurrence). IsFirstRefusal k v cs old mid [] e) (sym left)
    (subst (λ (v : List Came). IsFirstRefusal k (o ∷ drop (k + 1) os) v old mid [] e) (sym taken) (by o.silent c came))
  where
    by : (silent : Bool) (r : Came) → ComesTo k silent o.iri old mid r (Err e) → (silent ≡ false) × (r ≡ Err e) × (mid ≡ old)
    by silent (Ok found) h = absurd (cc)
    by true (Err why) h = absurd h
    by false (Err why) h = let same : e ≡ why = cc in (refl, ap (λ (v : ServiceError). Err v) (sym same), h.0)

pub none_of : {X : Type 0} (xs : List X) → length xs ≡ 0 → xs ≡ []
none_of [] h = refl
none_of (x ∷ xs) h = absurd (omega (arith, h))
