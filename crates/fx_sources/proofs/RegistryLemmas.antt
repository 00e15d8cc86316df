-- Registries: one endpoint more.
use Rattle.std.proofs.Common.{◌≡◌, ◌≢◌, ◌∙◌, ℕ, ◌+◌, ◌<◌, ◌≤◌, Bool, true, false, not, ◌||◌, nat_le, nat_lt, Option, Some, None, List, [], ◌∷◌, ◌++◌, map, Ok, Err, String, string_bytes, bytes_eq, length, length-append, cond, get_or, refl, ap, sym, arith}
use Rattle.std.specs.List.{All, HoldsAt, list_any, position_or_len}
use Rattle.std.specs.declared.alloc.Global.{Global}
use Rattle.std.proofs.lemmas.Bool.Decides.{nat_tests}
use Rattle.std.proofs.lemmas.List.{map-append}
use Rattle.std.proofs.lemmas.List.Elements.{All-push, All-nil, All-cons, All-weaker}
use Rattle.std.proofs.lemmas.List.Folds.{list_any_at}
use Rattle.std.proofs.lemmas.List.Quantifiers.{all_pairs_push, position-Some}
use Rattle.std.proofs.lemmas.List.Sums.{prefix_len-le-length}
use Rattle.std.proofs.lemmas.Slice.Eq.{bytes_eq-Decides}
use Rattle.fx_terms.specs.Iris.{IsIri}
use Rattle.fx_outside.specs.Endpoints.{EndpointParts, is_sendable}
use Rattle.fx_sources.specs.Addresses.{IsEntry, url_text}
use Rattle.fx_sources.specs.Registries.{IsRegistry, has_name, has_url, number_of, with_endpoint}
use Rattle.fx_sources.specs.declared.errors.RegistryError.TheVariants.{RepeatedUrl}

any_map : {X Y : Type 0} (p : Y → Bool) (f : X → Y) (xs : List X) → list_any p (map f xs) ≡ list_any (λ x. p (f x)) xs
any_map p f [] = refl
any_map p f (x ∷ xs) = ap (λ b. p (f x) || b) (any_map p f xs)

-- texts that addresses read to tell which of them repeat
pub same_urls : (texts : List (String Global)) (endpoints : List EndpointParts) (url : List ℕ) → map string_bytes texts ≡ map (λ e. url_text e.iri) endpoints
    → list_any (λ t. bytes_eq (string_bytes t) url) texts ≡ has_url url endpoints
same_urls texts endpoints url same =
    sym (any_map (λ u. bytes_eq u url) (λ (t : String Global). string_bytes t) texts) ∙ ap (list_any (λ u. bytes_eq u url)) same ∙ any_map (λ u. bytes_eq u url) (λ (e : EndpointParts). url_text e.iri) endpoints

room : (n : ℕ) → n < 64 → nat_le 64 n ≡ false
room n few = grind (arith, nat_tests)

-- an endpoint whose address reads to the text of an earlier one
pub with_repeated_url : (line : ℕ) (earlier : List EndpointParts) (e : EndpointParts) → length earlier < 64 → has_name e.name earlier ≡ false → has_url (url_text e.iri) earlier ≡ true
    → with_endpoint line earlier e ≡ Err (RepeatedUrl line)
unfolding with_endpoint
with_repeated_url line earlier e few name url = rw (room (length earlier) few, name, url) refl

-- an endpoint that repeats nothing
pub with_new : (line : ℕ) (earlier : List EndpointParts) (e : EndpointParts) → length earlier < 64 → has_name e.name earlier ≡ false → has_url (url_text e.iri) earlier ≡ false
    → with_endpoint line earlier e ≡ Ok (earlier ++ e ∷ [])
unfolding with_endpoint
with_new line earlier e few name url = rw (room (length earlier) few, name, url) refl

apart : {X : Type 0} (f : X → List ℕ) (xs : List X) (u : List ℕ) → list_any (λ x. bytes_eq (f x) u) xs ≡ false → (k : ℕ) (d : X) → k < length xs → f (get_or xs k d) ≢ u
apart f xs u none k d inside same =
    let found : list_any (λ x. bytes_eq (f x) u) xs ≡ true = list_any_at (λ x. bytes_eq (f x) u) xs k d inside ((bytes_eq-Decides _ _).1 same) in
    let never : true ≡ false = sym found ∙ none in cc

-- a registry stays one
pub IsRegistry-push : (earlier : List EndpointParts) (e : EndpointParts) (url : List ℕ) → IsRegistry earlier → IsEntry e url → length earlier < 64
    → has_name e.name earlier ≡ false → has_url (url_text e.iri) earlier ≡ false → IsRegistry (earlier ++ e ∷ [])
IsRegistry-push earlier e url is entry few name text = record {
  few = omega (arith, length-append earlier (e ∷ []));
  sendable = All-push (λ (d : EndpointParts). is_sendable d ≡ true) earlier e is.sendable entry.sendable;
  iris = All-push (λ (d : EndpointParts). IsIri d.iri) earlier e is.iris entry.iri;
  names = all_pairs_push (λ (c d : EndpointParts). c.name ≢ d.name) earlier e is.names (apart (λ (d : EndpointParts). d.name) earlier e.name name);
  addresses = all_pairs_push (λ (c d : EndpointParts). c.iri ≢ d.iri) earlier e is.addresses
      (λ k d inside same. apart (λ (d : EndpointParts). url_text d.iri) earlier (url_text e.iri) text k d inside (ap url_text same));
}

-- the texts that addresses read to, with one more
pub texts-push : (texts : List (String Global)) (endpoints : List EndpointParts) (text : String Global) (e : EndpointParts) → map string_bytes texts ≡ map (λ d. url_text d.iri) endpoints
    → string_bytes text ≡ url_text e.iri → map string_bytes (texts ++ text ∷ []) ≡ map (λ d. url_text d.iri) (endpoints ++ e ∷ [])
texts-push texts endpoints text e same reads =
    map-append (λ (t : String Global). string_bytes t) texts (text ∷ [])
    ∙ (ap (λ (us : List (List ℕ)). us ++ string_bytes text ∷ []) same ∙ ap (λ (u : List ℕ). map (λ (d : EndpointParts). url_text d.iri) endpoints ++ u ∷ []) reads)
    ∙ sym (map-append (λ (d : EndpointParts). url_text d.iri) endpoints (e ∷ []))

step_by : (b : Bool) (n m : ℕ) → cond {A = ℕ} (not b) (1 + n) 0 ≡ m + 1 → (b ≡ false) × (n ≡ m)
step_by true n m e = absurd (omega arith)
step_by false n m e = (refl, omega arith)

none_passes : {X : Type 0} (p : X → Bool) (xs : List X) → position_or_len p xs ≡ length xs → All (λ x. p x ≡ false) xs
none_passes p [] e = All-nil (λ x. p x ≡ false)
none_passes p (x ∷ xs) e =
    let step = step_by (p x) (position_or_len p xs) (length xs) (e ∙ (let more : length (x ∷ xs) ≡ length xs + 1 = omega arith in more)) in
    All-cons (λ x. p x ≡ false) x xs step.0 (none_passes p xs step.1)

at_end_by : (b : Bool) (n m : ℕ) → nat_lt n m ≡ b → n ≤ m → cond {A = Option ℕ} b (Some n) None ≡ None → n ≡ m
at_end_by true n m is within e = cc
at_end_by false n m is within e = grind (arith, nat_tests)

-- no endpoint has an address that isn't found
pub no_address : (endpoints : List EndpointParts) (iri : List ℕ) → number_of iri endpoints ≡ None → All (λ e. e.iri ≢ iri) endpoints
no_address endpoints iri none =
    let p : EndpointParts → Bool = λ e. bytes_eq e.iri iri in
    let end : position_or_len p endpoints ≡ length endpoints =
    at_end_by (nat_lt (position_or_len p endpoints) (length endpoints)) (position_or_len p endpoints) (length endpoints) refl
    (prefix_len-le-length (λ (e : EndpointParts). not (p e)) endpoints) none in
    All-weaker (λ (e : EndpointParts). p e ≡ false) (λ (e : EndpointParts). e.iri ≢ iri)
    (λ e differs same. let equal : true ≡ false = sym ((bytes_eq-Decides e.iri iri).1 same) ∙ differs in cc) endpoints (none_passes p endpoints end)

-- the endpoint that is found has the address
pub address_at : (endpoints : List EndpointParts) (iri : List ℕ) (number : ℕ) → number_of iri endpoints ≡ Some number → HoldsAt (λ e. e.iri ≡ iri) endpoints number
address_at endpoints iri number is = λ d. (bytes_eq-Decides _ _).0 (position-Some (λ (e : EndpointParts). bytes_eq e.iri iri) endpoints number d is).1
