-- What a parse gives a command of its words.
use Rattle.std.proofs.Common.{◌≡◌, ◌∙◌, true, List, Option, None, Ok, Err, ⊎_elim, sym, ap, subst}
use Rattle.clap.specs.Walk.{Row, Text, first_of}
use Rattle.clap.specs.Simple.{App, HasMatchesOf, app_of, is_simple, matches_of}
use Rattle.clap.specs.Matches.{first_value, found_of}
use Rattle.clap.specs.Values.{kind_of}
use Rattle.clap.specs.Kinds.{FailsBy, HasKind, Kinds}
use Rattle.clap.specs.Faults.{fault_of, is_simple_and_free}
use Rattle.clap.proofs.WalkLemmas.{first_value-rows}
use Rattle.clap.specs.declared.builder.command.Command as builder
use Rattle.clap.specs.declared.error.Error.{Error}
use Rattle.clap.specs.declared.error.kind.ErrorKind.{ErrorKind}
use Rattle.clap.specs.declared.parser.matches.ArgMatches.{ArgMatches}
use Rattle.fx_words.specs.declared.commands.CommandError.{CommandError}
use Rattle.fx_words.specs.declared.commands.CommandError.TheVariants.{Usage, Memory}
use Rattle.fx_words.specs.Commands.{Asked, GivesCommand, GivesFiles}
use Rattle.fx_words.specs.Parsed.{refusal_of}
use Rattle.fx_words.proofs.MeetLemmas.{Meets, meets_fault, meets_ok}

-- what an id has
pub read_of : (app : App) (form : builder.Command) (m : ArgMatches) (words : List Text) (id : Text) → app_of form ≡ app → is_simple app ≡ true → HasMatchesOf (app_of form) words m
    → first_value (found_of m) id ≡ first_of id (matches_of app words)
read_of app form m words id e simple h = first_value-rows (found_of m) id ∙ ap (first_of id) ((h (ap is_simple e ∙ simple)).0 ∙ ap (λ a. matches_of a words) e)

-- the words ask for what is read
pub asked_of : {X : Type 0} (read : List Row → Option X) (app : App) (form : builder.Command) (m : ArgMatches) (words : List Text) (goal : Option X) → app_of form ≡ app → is_simple_and_free app ≡ true
    → (is_simple_and_free (app_of form) ≡ true → FailsBy {T = ArgMatches} (fault_of (app_of form) words) (Ok m)) → Meets read (fault_of app words) (matches_of app words) goal → goal ≡ read (matches_of app words)
asked_of read app form m words goal e free fails meets =
    meets_ok read (fault_of app words) (matches_of app words) goal (sym (ap (λ a. fault_of a words) e) ∙ fails (ap is_simple_and_free e ∙ free)) meets

-- the fault of a parse
pub kinds_of : (app : App) (form : builder.Command) (x : Error) (words : List Text) → app_of form ≡ app → is_simple_and_free app ≡ true
    → (is_simple_and_free (app_of form) ≡ true → FailsBy {T = ArgMatches} (fault_of (app_of form) words) (Err x)) → HasKind (fault_of app words) x
kinds_of app form x words e free fails = subst (λ a. HasKind (fault_of a words) x) e (fails (ap is_simple_and_free e ∙ free))

refuses_files : (x : CommandError) (goal : Option (Text × Text)) → goal ≡ None → GivesFiles (Err x) goal
refuses_files Usage goal e = e
refuses_files Memory goal e = tt

refuses_command : (x : CommandError) (goal : Option Asked) → goal ≡ None → GivesCommand (Err x) goal
refuses_command Usage goal e = e
refuses_command Memory goal e = tt

pub files_refused : (read : List Row → Option (Text × Text)) (ks : Kinds) (rows : List Row) (x : Error) (goal : Option (Text × Text)) → HasKind ks x → Meets read ks rows goal
    → GivesFiles (Err (refusal_of (kind_of x))) goal
files_refused read ks rows x goal h meets = ⊎_elim
    (λ lacks. subst (λ (k : ErrorKind). GivesFiles (Err (refusal_of k)) goal) (sym lacks) tt)
    (λ among. refuses_files (refusal_of (kind_of x)) goal (meets_fault read ks (kind_of x) rows goal among meets)) h

pub command_refused : (read : List Row → Option Asked) (ks : Kinds) (rows : List Row) (x : Error) (goal : Option Asked) → HasKind ks x → Meets read ks rows goal
    → GivesCommand (Err (refusal_of (kind_of x))) goal
command_refused read ks rows x goal h meets = ⊎_elim
    (λ lacks. subst (λ (k : ErrorKind). GivesCommand (Err (refusal_of k)) goal) (sym lacks) tt)
    (λ among. refuses_command (refusal_of (kind_of x)) goal (meets_fault read ks (kind_of x) rows goal among meets)) h
