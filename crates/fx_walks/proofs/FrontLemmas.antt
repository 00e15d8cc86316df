-- The tasks before the first occurrence of SERVICE that was refused.
use Rattle.std.proofs.Common.{◌≡◌, ◌∙◌, drop-cons, drop-drop, ap, sym, subst, refl, ℕ, zero, suc, ◌+◌, ◌-◌, ◌<◌, ◌≤◌, append_assoc, List, [], ◌∷◌, ◌++◌, drop, take, length, get_or, Contains, inl, inr, arith}
use Rattle.std.specs.List.{AllByRecursion, flat_map}
use Rattle.std.proofs.lemmas.List.{drop-append-le, length-drop, length-take-le, take-append-drop}
use Rattle.std.proofs.lemmas.List.Elements.{All-contains_itself, All-weaker}
use Rattle.fx_terms.proofs.SetLemmas.{Among, among_from, contains_from}
use Rattle.fx_algebra.proofs.MemberLemmas.{among_left, among_right}
use Rattle.fx_algebra.specs.declared.units.Unit as unit
use Rattle.fx_walks.specs.GroupsAsked.{task_units, units_in}
use Rattle.fx_walks.specs.Tasks.{AreNext, front_of}
use Rattle.fx_walks.specs.declared.tasks.Task.{Task}
use Rattle.fx_walks.specs.declared.tasks.Task.TheVariants as task

-- the next of tasks
pub next_task : (tasks : List Task) (next : ℕ) (it : Task) → next < length tasks → it ≡ get_or tasks next it → drop next tasks ≡ it ∷ drop (next + 1) tasks
next_task tasks next it below is =
    let one : suc next ≡ next + 1 = omega arith in
    drop-cons tasks next it below ∙ ap (λ (v : Task). v ∷ drop (suc next) tasks) (sym is) ∙ ap (λ (n : ℕ). it ∷ drop n tasks) one

-- behind the next of tasks
pub behind_next : (tasks others : List Task) (next : ℕ) (t : Task) → drop next tasks ≡ t ∷ others → drop (next + 1) tasks ≡ others
behind_next tasks others next t h = sym (drop-drop 1 next tasks) ∙ ap (drop 1) h

pub first_is : {X : Type 0} (x y : X) (xs ys : List X) → x ∷ xs ≡ y ∷ ys → (x ≡ y) × (xs ≡ ys)
first_is x y xs ys h = (cc, cc)

-- they are the first of the tasks
pub front_taken : (tasks : List Task) → take (length (front_of tasks)) tasks ≡ front_of tasks
front_taken [] = refl
front_taken (task.Run units ∷ tasks) = ap (λ (v : List Task). task.Run units ∷ v) (front_taken tasks)
front_taken (task.EmptyRun ∷ tasks) = ap (λ (v : List Task). task.EmptyRun ∷ v) (front_taken tasks)
front_taken (task.Service rows ∷ tasks) = ap (λ (v : List Task). task.Service rows ∷ v) (front_taken tasks)
front_taken (task.Refused ∷ tasks) = refl

pub front_within : (tasks : List Task) → length (front_of tasks) ≤ length tasks
front_within [] = omega arith
front_within (task.Run units ∷ tasks) = omega (arith, front_within tasks)
front_within (task.EmptyRun ∷ tasks) = omega (arith, front_within tasks)
front_within (task.Service rows ∷ tasks) = omega (arith, front_within tasks)
front_within (task.Refused ∷ tasks) = omega arith

front_at : (tasks : List Task) (k : ℕ) (t : Task) → k < length (front_of tasks) → get_or (front_of tasks) k t ≡ get_or tasks k t
front_at [] k t h = refl
front_at (task.Run units ∷ tasks) zero t h = refl
front_at (task.Run units ∷ tasks) (suc k) t h = front_at tasks k t (omega (arith, h))
front_at (task.EmptyRun ∷ tasks) zero t h = refl
front_at (task.EmptyRun ∷ tasks) (suc k) t h = front_at tasks k t (omega (arith, h))
front_at (task.Service rows ∷ tasks) zero t h = refl
front_at (task.Service rows ∷ tasks) (suc k) t h = front_at tasks k t (omega (arith, h))
front_at (task.Refused ∷ tasks) k t h = absurd (omega (arith, h))

-- where there are others, one of them was refused
refused_among : (tasks : List Task) → length (front_of tasks) < length tasks → Among task.Refused tasks
refused_among [] h = absurd (omega (arith, h))
refused_among (task.Run units ∷ tasks) h = inr (refused_among tasks (omega (arith, h)))
refused_among (task.EmptyRun ∷ tasks) h = inr (refused_among tasks (omega (arith, h)))
refused_among (task.Service rows ∷ tasks) h = inr (refused_among tasks (omega (arith, h)))
refused_among (task.Refused ∷ tasks) h = inl refl

pub refused_there : (tasks : List Task) → length (front_of tasks) < length tasks → Contains tasks task.Refused
refused_there tasks h = contains_from tasks task.Refused (refused_among tasks h)

-- the next of the tasks, which stands at its place in a list of them all
pub record IsNextTask (tasks : List Task) (next : ℕ) (it : Task) : Type 0 where
  pub next_is : drop next tasks ≡ it ∷ drop (next + 1) tasks
  pub its : Contains tasks it

pub next_of_all : (tasks all : List Task) (next : ℕ) (it : Task) → all ≡ tasks → next < length all → it ≡ get_or all next it → IsNextTask tasks next it
next_of_all tasks all next it same below is =
    let long : length all ≡ length tasks = ap length same in
    let under : next < length tasks = omega (arith, below, long) in
    let here : it ≡ get_or tasks next it = is ∙ ap (λ (v : List Task). get_or v next it) same in
    record { next_is = next_task tasks next it under here; its = (next, under, sym here) }

-- or of those before the first occurrence that was refused
pub record IsNextInFront (tasks : List Task) (next : ℕ) (it : Task) : Type 0 where
  pub is_next : IsNextTask tasks next it
  pub in_front : Contains (front_of tasks) it

pub next_in_front : (tasks front : List Task) (next : ℕ) (it : Task) → front ≡ front_of tasks → next < length front → it ≡ get_or front next it → IsNextInFront tasks next it
next_in_front tasks front next it same below is =
    let long : length front ≡ length (front_of tasks) = ap length same in
    let low : next < length (front_of tasks) = omega (arith, below, long) in
    let within : length (front_of tasks) ≤ length tasks = front_within tasks in
    let there : it ≡ get_or (front_of tasks) next it = is ∙ ap (λ (v : List Task). get_or v next it) same in
    record {
      is_next = next_of_all tasks tasks next it refl (omega (arith, low, within)) (there ∙ front_at tasks next it low);
      in_front = (next, low, sym there);
    }

-- so many that are next
pub next_are : (tasks its : List Task) (next count : ℕ) → next + count ≤ length (front_of tasks) → its ≡ take count (drop next (front_of tasks)) → AreNext tasks next count its (next + count)
next_are tasks its next count below is =
    let front = front_of tasks in
    let behind = drop (length front) tasks in
    let long : length (drop next front) ≡ length front - next = length-drop next front in
    record {
      others = drop count (drop next front) ++ behind;
      next_are =
          ap (drop next) (sym (take-append-drop (length front) tasks) ∙ ap (λ (v : List Task). v ++ behind) (front_taken tasks))
          ∙ drop-append-le next front behind (omega (arith, below))
          ∙ ap (λ (v : List Task). v ++ behind) (sym (take-append-drop count (drop next front)))
          ∙ append_assoc (take count (drop next front)) (drop count (drop next front)) behind
          ∙ ap (λ (v : List Task). v ++ (drop count (drop next front) ++ behind)) (sym is);
      many = ap length is ∙ length-take-le count (drop next front) (omega (arith, long, below));
      in_front = All-weaker (Contains its) (Contains front) (λ t m. here t (subst (λ (v : List Task). Contains v t) is m)) its (All-contains_itself its);
      end_is = refl;
    }
  where
    here : (t : Task) → Contains (take count (drop next (front_of tasks))) t → Contains (front_of tasks) t
    here t m =
        let front = front_of tasks in
        let in_drop : Among t (drop next front) =
        subst (Among t) (take-append-drop count (drop next front)) (among_left t (take count (drop next front)) (drop count (drop next front)) (among_from (take count (drop next front)) t m)) in
        contains_from front t (subst (Among t) (take-append-drop next front) (among_right t (take next front) (drop next front) in_drop))

-- what holds of the units of all tasks holds of theirs
pub all_both : {X : Type 0} (P : X → Type 0) (xs ys : List X) → AllByRecursion P xs → AllByRecursion P ys → AllByRecursion P (xs ++ ys)
all_both P [] ys h k = k
all_both P (x ∷ xs) ys h k = (h.0, all_both P xs ys h.1 k)

pub all_split : {X : Type 0} (P : X → Type 0) (xs ys : List X) → AllByRecursion P (xs ++ ys) → AllByRecursion P xs × AllByRecursion P ys
all_split P [] ys h = (tt, h)
all_split P (x ∷ xs) ys h = let rest = all_split P xs ys h.1 in ((h.0, rest.0), rest.1)

pub units_in_front : (P : unit.Unit → Type 0) (tasks : List Task) → AllByRecursion P (flat_map task_units tasks) → AllByRecursion P (units_in tasks)
units_in_front P [] h = tt
units_in_front P (task.Run units ∷ tasks) h =
    let both = all_split P units (flat_map task_units tasks) h in
    all_both P units (units_in tasks) both.0 (units_in_front P tasks both.1)
units_in_front P (task.EmptyRun ∷ tasks) h = units_in_front P tasks h
units_in_front P (task.Service rows ∷ tasks) h = units_in_front P tasks h
units_in_front P (task.Refused ∷ tasks) h = tt
