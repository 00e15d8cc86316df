-- Answers by the members of a document.
use Rattle.std.proofs.Common.{◌≡◌, ◌∙◌, ap, sym, subst, refl, ℕ, Bool, true, false, not, ◌&&◌, if◌then◌else◌, List, Option, Some, None, Result, Ok, Err, option_map, option_and_then, is_some}
use Rattle.std.specs.Prelude.{codes}
use Rattle.std.specs.Option.{ok_or}
use Rattle.std.specs.Str.{is_utf8}
use Rattle.serde_json.specs.Data.{Data, Items, Members, array, object}
use Rattle.serde_json.specs.Find.{as_array, as_bool, get}
use Rattle.serde_json.specs.Read.{read}
use Rattle.fx_algebra.specs.Solutions.{Bindings}
use Rattle.fx_algebra.specs.declared.answers.Answer.{Answer}
use Rattle.fx_algebra.specs.declared.answers.Answer.TheVariants.{Table, Truth}
use Rattle.fx_results.specs.Reading.{and_then, are_distinct, answer_in, bindings_in, bindings_of, columns_in, columns_of, contents_of, data_in, has, if_distinct, is_head, is_object, is_root, items_at, names_in, rows_in, table_in, vars_in}
use Rattle.fx_results.specs.declared.faults.ResultsError.{ResultsError}
use Rattle.fx_results.specs.declared.faults.ResultsError.TheVariants.{BadJson, Shape}
use Rattle.fx_results.specs.declared.faults.ShapeFault.TheVariants as fault
use Rattle.fx_laws_results.specs.Told.{DocumentsTellByTheirMembers, Has, HasNo, Tells, TellsTable, TellsTruth}
use Rattle.fx_laws_results.proofs.PartLemmas.{and_true, if_some, is_one, items_there, map_some, members_of, or_ok, out_ok, then_ok, then_some, truth_of}
use Rattle.fx_laws_results.proofs.RowLemmas.{columns_from, columns_there, rows_from, rows_there}

abbrev head_name : List ℕ
head_name = codes "head"

abbrev truth_name : List ℕ
truth_name = codes "boolean"

abbrev results_name : List ℕ
results_name = codes "results"

no_member : (o : Option Data) → is_some o ≡ false → o ≡ None
no_member None e = refl
no_member (Some v) e = absurd (cc)

-- ---- from what was read

record HasHead (d : Data) (o : Option Data) : Type 0 where
  members : Members
  is : o ≡ Some (object members)

head_there : (d : Data) (o : Option Data) → is_head o ≡ true → HasHead d o
head_there d None e = absurd (cc)
head_there d (Some v) e = let m = members_of v e in record { members = m.0; is = ap Some m.1 }

in_same : (v w x : Data) → Some v ≡ Some w → Some v ≡ Some x → w ≡ x
in_same v w x e f = cc

module _ (d : Data) where
  table_there : (head : Members) → Has d head_name (object head) → HasNo d truth_name → (a : Answer) → table_in d ≡ Ok a → Tells d a
  table_there head has_head no_truth a e =
      let c = then_ok (columns_in d) (λ columns. and_then (bindings_in d) (λ bindings. and_then (rows_in columns bindings) (λ rows. Ok (Table columns rows)))) a e in
      let b = then_ok (bindings_in d) (λ bindings. and_then (rows_in c.0 bindings) (λ rows. Ok (Table c.0 rows))) a c.2 in
      let r = then_ok (rows_in c.0 b.0) (λ rows. Ok (Table c.0 rows)) a b.2 in
      let v = then_some (vars_in d) columns_of c.0 (or_ok (option_and_then columns_of (vars_in d)) (Shape fault.Columns) c.0 c.1) in
      let h = then_some (get head_name d) (items_at (codes "vars")) v.0 v.1 in
      let n = then_some (names_in v.0) if_distinct c.0 v.2 in
      let distinct = if_some (are_distinct n.0) (Some n.0) c.0 n.2 in
      let s = then_ok (ok_or (get results_name d) (Shape fault.Results)) bindings_of b.0 b.1 in
      let has_results = or_ok (get results_name d) (Shape fault.Results) s.0 s.1 in
      let o = results_there s.0 b.0 s.2 in
      subst (Tells d) (out_ok (Table c.0 r.0) a r.2)
      (record {
        head = head;
        vars = v.0;
        results = o.0;
        bindings = b.0;
        has_head = has_head;
        has_vars = subst (λ (x : Data). Has x (codes "vars") (array v.0)) (in_same h.0 h.0 (object head) refl (sym h.1 ∙ has_head)) (items_there (codes "vars") h.0 v.0 h.2);
        are_columns = columns_there v.0 c.0 (n.1 ∙ distinct.1) (ap are_distinct (sym (out n.0 c.0 distinct.1)) ∙ distinct.0);
        no_truth = no_truth;
        has_results = has_results ∙ ap Some o.1;
        has_bindings = subst (λ (x : Data). Has x (codes "bindings") (array b.0)) o.1 (items_there (codes "bindings") s.0 b.0 o.2);
        are_rows = rows_there c.0 b.0 r.0 r.1;
      })
    where
      out : (x y : List (List ℕ)) → Some x ≡ Some y → x ≡ y
      out x y k = cc

      results_there : (v : Data) (bs : Items) → bindings_of v ≡ Ok bs → (ms : Members) × (v ≡ object ms) × (items_at (codes "bindings") v ≡ Some bs)
      results_there v bs k = by (is_object v) refl k
        where
          by : (b : Bool) → is_object v ≡ b → (if b then ok_or (items_at (codes "bindings") v) (Shape fault.Bindings) else Err (Shape fault.Results)) ≡ Ok bs → (ms : Members) × (v ≡ object ms) × (items_at (codes "bindings") v ≡ Some bs)
          by true f g = let m = members_of v f in (m.0, m.1, or_ok (items_at (codes "bindings") v) (Shape fault.Bindings) bs g)
          by false f g = absurd (cc)

  contents_there : (head : Members) → Has d head_name (object head) → (o : Option Data) → get truth_name d ≡ o → (is_object d && not (is_some o && has results_name d)) ≡ true → (a : Answer) → contents_of o d ≡ Ok a → Tells d a
  contents_there head h None n root a e = table_there head h n a e
  contents_there head h (Some v) n root a e =
      let m = map_some (as_bool v) Truth a (or_ok (option_map Truth (as_bool v)) (Shape fault.Truth) a e) in
      subst (Tells d) m.2
      (record {
        head = head;
        has_head = h;
        has_truth = n ∙ ap Some (truth_of v m.0 m.1);
        no_results = no_member (get results_name d) (not_back (has results_name d) (and_true (is_object d) (not (true && has results_name d)) root).1);
      })
    where
      not_back : (b : Bool) → not (true && b) ≡ true → b ≡ false
      not_back true k = absurd (cc)
      not_back false k = refl

  pub answer_there : (a : Answer) → answer_in d ≡ Ok a → Tells d a
  answer_there a e = by (is_root d) refl (is_head (get head_name d)) refl e
    where
      by : (r : Bool) → is_root d ≡ r → (h : Bool) → is_head (get head_name d) ≡ h → (if not r then Err (Shape fault.Root) else if not h then Err (Shape fault.Head) else contents_of (get truth_name d) d) ≡ Ok a → Tells d a
      by false f h g k = absurd (cc)
      by true f false g k = absurd (cc)
      by true f true g k = let t = head_there d (get head_name d) g in contents_there t.members t.is (get truth_name d) refl f a k

  -- ---- to what is read

  steps : (head : Members) (a : Answer) → Has d head_name (object head) → is_root d ≡ true → contents_of (get truth_name d) d ≡ Ok a → answer_in d ≡ Ok a
  steps head a h r c =
      ap (λ (b : Bool). if not b then Err (Shape fault.Root) else if not (is_head (get head_name d)) then Err (Shape fault.Head) else contents_of (get truth_name d) d) r
      ∙ (ap (λ (o : Option Data). if not (is_head o) then Err (Shape fault.Head) else contents_of (get truth_name d) d) h ∙ c)

  root_from : (head : Members) → Has d head_name (object head) → (a b : Bool) → has truth_name d ≡ a → has results_name d ≡ b → (a && b) ≡ false → is_root d ≡ true
  root_from head h a b e f g =
      ap (λ (c : Bool). c && not (has truth_name d && has results_name d)) (is_one d head_name (object head) h)
      ∙ (ap (λ (c : Bool). not (c && has results_name d)) e ∙ (ap (λ (c : Bool). not (a && c)) f ∙ ap not g))

  truth_from : (truth : Bool) → TellsTruth d truth → answer_in d ≡ Ok (Truth truth)
  truth_from truth t =
      steps t.head (Truth truth) t.has_head (root_from t.head t.has_head true false (ap is_some t.has_truth) (ap is_some t.no_results) refl)
      (ap (λ (o : Option Data). contents_of o d) t.has_truth)

  columns_are : (columns : List (List ℕ)) (rows : List Bindings) → TellsTable d columns rows → columns_in d ≡ Ok columns
  columns_are columns rows t =
      let c = columns_from t.vars columns t.are_columns in
      ap (λ (o : Option Data). ok_or (option_and_then columns_of (option_and_then (items_at (codes "vars")) o)) (Shape fault.Columns)) t.has_head
      ∙ (ap (λ (o : Option Data). ok_or (option_and_then columns_of (option_and_then as_array o)) (Shape fault.Columns)) t.has_vars
      ∙ (ap (λ (o : Option (List (List ℕ))). ok_or (option_and_then if_distinct o) (Shape fault.Columns)) c.0
      ∙ ap (λ (b : Bool). ok_or (if b then Some columns else None) (Shape fault.Columns)) c.1))

  bindings_are : (columns : List (List ℕ)) (rows : List Bindings) → (t : TellsTable d columns rows) → bindings_in d ≡ Ok t.bindings
  bindings_are columns rows t =
      ap (λ (o : Option Data). and_then (ok_or o (Shape fault.Results)) bindings_of) t.has_results
      ∙ ap (λ (o : Option Data). ok_or (option_and_then as_array o) (Shape fault.Bindings)) t.has_bindings

  table_from : (columns : List (List ℕ)) (rows : List Bindings) → TellsTable d columns rows → answer_in d ≡ Ok (Table columns rows)
  table_from columns rows t =
      steps t.head (Table columns rows) t.has_head (root_from t.head t.has_head false (has results_name d) (ap is_some t.no_truth) refl refl)
      (ap (λ (o : Option Data). contents_of o d) t.no_truth
      ∙ (ap (λ (r : Result (List (List ℕ)) ResultsError). and_then r (λ cs. and_then (bindings_in d) (λ bindings. and_then (rows_in cs bindings) (λ rs. Ok (Table cs rs))))) (columns_are columns rows t)
      ∙ (ap (λ (r : Result Items ResultsError). and_then r (λ bindings. and_then (rows_in columns bindings) (λ rs. Ok (Table columns rs)))) (bindings_are columns rows t)
      ∙ ap (λ (r : Result (List Bindings) ResultsError). and_then r (λ rs. Ok (Table columns rs))) (rows_from columns t.bindings rows t.are_rows))))

  pub answer_from : (a : Answer) → Tells d a → answer_in d ≡ Ok a
  answer_from (Truth truth) t = truth_from truth t
  answer_from (Table columns rows) t = table_from columns rows t

-- ---- bytes

pub documents_tell_by_their_members : DocumentsTellByTheirMembers
documents_tell_by_their_members bytes answer = (
  λ e.
      let d = then_ok (data_in bytes) answer_in answer e in
      let b = if_some (is_utf8 bytes) (read bytes) d.0 (or_ok (if is_utf8 bytes then read bytes else None) BadJson d.0 d.1) in
      record { value = d.0; utf8 = b.0; json = b.1; tells = answer_there d.0 answer d.2 },
  λ t.
      ap (λ (b : Bool). and_then (ok_or (if b then read bytes else None) BadJson) answer_in) t.utf8
      ∙ (ap (λ (o : Option Data). and_then (ok_or o BadJson) answer_in) t.json ∙ answer_from t.value answer t.tells),
)
