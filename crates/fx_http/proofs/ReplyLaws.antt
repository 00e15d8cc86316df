-- The head within the first 65,536 bytes, and that bytes answer one thing alone.
use Rattle.std.proofs.Common.{◌≡◌, ◌∙◌, ℕ, ◌+◌, ◌-◌, ◌<◌, ◌≤◌, Bool, true, false, List, [], ◌∷◌, ◌++◌, length, map, take, drop, refl, sym, ap, subst, arith, Option, Some, None, Ok, Err, append_assoc}
use Rattle.std.specs.Prelude.{Result, IfSome, not, ◌==◌, if◌then◌else◌}
use Rattle.std.proofs.Math.Seq.{take-append-add}
use Rattle.std.proofs.lemmas.List.{length-take, take-append-drop}
use Rattle.httparse.specs.declared.spans.HeaderSpan.{HeaderSpan}
use Rattle.httparse.specs.declared.spans.ResponseSpans.{ResponseSpans}
use Rattle.httparse.specs.Grammar.{ResponseHead, ReadsResponse, print_response, status_code}
use Rattle.httparse.specs.Spans.{header_bytes}
use Rattle.httparse.proofs.GrammarLemmas.{response_unique}
use Rattle.fx_http.specs.Fields.{named}
use Rattle.fx_http.specs.Replies.{BeginsWith, HasNoHead, fault_in, fault_of, is_plain, is_readable, is_results, is_whole, IsBody, IsReply, HasFault, Replies}
use Rattle.fx_http.specs.Heads.{Follows, FollowsHead, IsHeadOf}
use Rattle.fx_http.specs.Answers.{Gives, IsOrMemory}
use Rattle.fx_http.proofs.ChunkSteps.{chunked_unique}
use Rattle.fx_http.specs.declared.replies.ReplyError.{ReplyError}
use Rattle.fx_http.specs.declared.replies.ReplyError.TheVariants.{TooLong, Head, Status, Coding, ContentType, Length, Chunk, Memory}

-- ---- the front

-- what a front begins with, the whole begins with
begins_whole : (m : ℕ) (bytes : List ℕ) (h : ResponseHead) (r : List ℕ) → ReadsResponse (take m bytes) h r
    → ReadsResponse bytes h (r ++ drop m bytes)
begins_whole m bytes h r x = (
  x.0,
  sym (take-append-drop m bytes) ∙ ap (λ (t : List ℕ). t ++ drop m bytes) x.1 ∙ append_assoc (print_response h) r (drop m bytes),
)

-- what the whole begins with, and ends in the front, the front begins with
begins_front : (m : ℕ) (bytes : List ℕ) (h : ResponseHead) (rest : List ℕ) → ReadsResponse bytes h rest
    → length (print_response h) ≤ m → ReadsResponse (take m bytes) h (take (m - length (print_response h)) rest)
begins_front m bytes h rest x near =
    let n = m - length (print_response h) in
    let m_is : m ≡ length (print_response h) + n = omega arith in
    (x.0, ap (take m) x.1 ∙ ap (λ (k : ℕ). take k (print_response h ++ rest)) m_is ∙ take-append-add (print_response h) rest n)

-- what is behind a list of some length
behind : (n : ℕ) (a b : List ℕ) → n ≡ length a → drop n (a ++ b) ≡ b
behind n [] b e = rw e refl
behind n (x ∷ a) b e = rw e (behind (length a) a b refl)

pub begins_with : (bytes : List ℕ) (headers : List HeaderSpan) (spans : ResponseSpans) (x : IsHeadOf (take 65536 bytes) headers spans)
    → length headers ≤ 100 → BeginsWith bytes x.head (drop spans.len bytes)
begins_with bytes headers spans x few =
    let reads = begins_whole 65536 bytes x.head (drop spans.len (take 65536 bytes)) x.reads in
    let rest = drop spans.len (take 65536 bytes) ++ drop 65536 bytes in
    let rest_is : drop spans.len bytes ≡ rest = ap (drop spans.len) reads.1 ∙ behind spans.len (print_response x.head) rest x.len in
    let near = x.within in
    let long = x.len in
    let at_most = x.few in
    record {
      reads = subst (ReadsResponse bytes x.head) (sym rest_is) reads;
      near = omega (arith, length-take 65536 bytes);
      few = omega arith;
    }

pub no_head : (bytes : List ℕ) (room : ℕ) → room ≡ 100
    → ((h : ResponseHead) (rest : List ℕ) → ReadsResponse (take 65536 bytes) h rest → room < length h.fields) → HasNoHead bytes
no_head bytes room room_is over h rest x =
    let few = x.few in
    let many = over h _ (begins_front 65536 bytes h rest x.reads x.near) in
    absurd (omega arith)

-- ---- what follows a head

-- the faults that a head can have
abbrev IsOfHead : ReplyError → Type 0
IsOfHead (Status code) = Unit {0}
IsOfHead Coding = Unit {0}
IsOfHead ContentType = Unit {0}
IsOfHead Length = Unit {0}
IsOfHead e = ⊥

fault_is : (code : ℕ) (fields : List (List ℕ × List ℕ)) (size : ℕ) → IfSome (fault_of code fields size) IsOfHead
fault_is code fields size = by_tests (code == 200) (is_readable fields) (is_results fields) (is_whole size fields)
  where
    by_tests : (a b c d : Bool)
        → IfSome (if not a then Some (Status code) else if not b then Some Coding else if not c then Some ContentType else if not d then Some Length else None) IsOfHead
    by_tests false b c d = tt
    by_tests true false c d = tt
    by_tests true true false d = tt
    by_tests true true true false = tt
    by_tests true true true true = tt

of_head : (bytes : List ℕ) (fault : ReplyError) → length bytes ≤ 67108864 → IsOfHead fault → HasFault bytes fault → Replies bytes (Err fault)
of_head bytes (Status code) short k h = (short, h)
of_head bytes Coding short k h = (short, h)
of_head bytes ContentType short k h = (short, h)
of_head bytes Length short k h = (short, h)
of_head bytes TooLong short k h = absurd k
of_head bytes Head short k h = absurd k
of_head bytes Chunk short k h = absurd k
of_head bytes Memory short k h = absurd k

follows : (bytes : List ℕ) (h : ResponseHead) (rest : List ℕ) → length bytes ≤ 67108864 → BeginsWith bytes h rest
    → (o : Option ReplyError) → fault_in h rest ≡ o → IfSome o IsOfHead → (p : Bool) → is_plain (named h.fields) ≡ p
    → (r : Result (List ℕ) ReplyError) → Follows o p rest r → Replies bytes r
follows bytes h rest short begins (Some fault) e k p q r f =
    subst (Replies bytes) (sym f) (of_head bytes fault short k (record { head = h; rest = rest; begins = begins; broken = e }))
follows bytes h rest short begins None e k true q r f =
    subst (Replies bytes) (sym f) (short, record { head = h; rest = rest; begins = begins; faultless = e; holds = rw q refl })
follows bytes h rest short begins None e k false q (Ok body) f =
    (short, record { head = h; rest = rest; begins = begins; faultless = e; holds = rw q f })
follows bytes h rest short begins None e k false q (Err fault) f =
    subst (λ (x : ReplyError). Replies bytes (Err x)) (sym f.0)
    (short, record { head = h; rest = rest; begins = begins; faultless = e; chunked = q; broken = f.1 })

gives_as : (r : Result (List ℕ) ReplyError) (P Q : Result (List ℕ) ReplyError → Type 0) → ((a : Result (List ℕ) ReplyError) → P a → Q a) → Gives r P → Gives r Q
gives_as (Ok body) P Q f h = f (Ok body) h
gives_as (Err Memory) P Q f h = tt
gives_as (Err fault) P Q f h = f (Err fault) h

-- what a head answers is what the bytes answer
pub replies_by_head : (bytes : List ℕ) (headers : List HeaderSpan) (spans : ResponseSpans) (r : Result (List ℕ) ReplyError)
    → length bytes ≤ 67108864 → IsHeadOf (take 65536 bytes) headers spans → length headers ≤ 100
    → Gives r (FollowsHead spans.code (map (header_bytes (take 65536 bytes)) (take spans.headers headers)) (drop spans.len bytes))
    → Gives r (Replies bytes)
replies_by_head bytes headers spans r short x few given =
    let begins = begins_with bytes headers spans x few in
    let rest = drop spans.len bytes in
    let of_code = rw x.code at given in
    let of_fields : Gives r (FollowsHead (status_code x.head) (named x.head.fields) rest) = rw x.fields at of_code in
    gives_as r _ (Replies bytes)
    (follows bytes x.head rest short begins (fault_in x.head rest) refl (fault_is (status_code x.head) (named x.head.fields) (length rest)) (is_plain (named x.head.fields)) refl)
    of_fields

-- ---- one answer

-- too long, without a head, or as a head answers
data Answered (bytes : List ℕ) (answer : Result (List ℕ) ReplyError) : Type 0 where
  long : 67108864 < length bytes → answer ≡ Err TooLong → Answered bytes answer
  headless : length bytes ≤ 67108864 → HasNoHead bytes → answer ≡ Err Head → Answered bytes answer
  headed : length bytes ≤ 67108864 → (h : ResponseHead) (rest : List ℕ) → BeginsWith bytes h rest
      → Follows (fault_in h rest) (is_plain (named h.fields)) rest answer → Answered bytes answer

body_follows : (p : Bool) (rest body : List ℕ) → IsBody p rest body → Follows None p rest (Ok body)
body_follows true rest body h = ap Ok h
body_follows false rest body h = h

reply_follows : (bytes body : List ℕ) (k : IsReply bytes body) → Follows (fault_in k.head k.rest) (is_plain (named k.head.fields)) k.rest (Ok body)
reply_follows bytes body k = rw k.faultless (body_follows (is_plain (named k.head.fields)) k.rest body k.holds)

of_fault : (bytes : List ℕ) (fault : ReplyError) → length bytes ≤ 67108864 → HasFault bytes fault → Answered bytes (Err fault)
of_fault bytes fault short h = headed short h.head h.rest h.begins (rw h.broken refl)

answered : (bytes : List ℕ) (a : Result (List ℕ) ReplyError) → Replies bytes a → Answered bytes a
answered bytes (Ok body) h = let k = h.1 in headed h.0 k.head k.rest k.begins (reply_follows bytes body k)
answered bytes (Err TooLong) h = long h refl
answered bytes (Err Head) h = headless h.0 h.1 refl
answered bytes (Err Memory) h = absurd h.1
answered bytes (Err Chunk) h = let k = h.1 in headed h.0 k.head k.rest k.begins (rw (k.faultless, k.chunked) (refl, k.broken))
answered bytes (Err fault) h = of_fault bytes fault h.0 h.1

follows_one : (o : Option ReplyError) (p : Bool) (rest : List ℕ) (a b : Result (List ℕ) ReplyError) → Follows o p rest a → Follows o p rest b → a ≡ b
follows_one (Some fault) p rest a b x y = x ∙ sym y
follows_one None true rest a b x y = x ∙ sym y
follows_one None false rest (Ok c) (Ok d) x y = ap Ok (chunked_unique rest c d x y)
follows_one None false rest (Ok c) (Err e) x y = absurd (y.1 c x)
follows_one None false rest (Err e) (Ok d) x y = absurd (x.1 d y)
follows_one None false rest (Err e) (Err f) x y = ap Err (x.0 ∙ sym y.0)

-- two heads of the same bytes are one
heads_one : (bytes : List ℕ) (h k : ResponseHead) (r q : List ℕ) (a b : Result (List ℕ) ReplyError) → BeginsWith bytes h r → BeginsWith bytes k q
    → Follows (fault_in h r) (is_plain (named h.fields)) r a → Follows (fault_in k q) (is_plain (named k.fields)) q b → a ≡ b
heads_one bytes h k r q a b g i e f =
    let same = response_unique bytes h k r q g.reads i.reads in
    let P : ResponseHead → Type 0 = λ x. Follows (fault_in x q) (is_plain (named x.fields)) q b in
    let Q : List ℕ → Type 0 = λ x. Follows (fault_in h x) (is_plain (named h.fields)) x b in
    follows_one (fault_in h r) (is_plain (named h.fields)) r a b e (subst Q (sym same.1) (subst P (sym same.0) f))

-- a reply has one body
pub reply_unique : (bytes a b : List ℕ) → IsReply bytes a → IsReply bytes b → a ≡ b
reply_unique bytes a b x y =
    let same : Ok a ≡ Ok b = heads_one bytes x.head y.head x.rest y.rest (Ok a) (Ok b) x.begins y.begins (reply_follows bytes a x) (reply_follows bytes b y) in
    cc

one : (bytes : List ℕ) (a b : Result (List ℕ) ReplyError) → Answered bytes a → Answered bytes b → a ≡ b
one bytes a b (long m e) (long n f) = e ∙ sym f
one bytes a b (long m e) (headless n g f) = absurd (omega arith)
one bytes a b (long m e) (headed n k q g f) = absurd (omega arith)
one bytes a b (headless m g e) (long n f) = absurd (omega arith)
one bytes a b (headless m g e) (headless n i f) = e ∙ sym f
one bytes a b (headless m g e) (headed n k q i f) = absurd (g k q i)
one bytes a b (headed m h r g e) (long n f) = absurd (omega arith)
one bytes a b (headed m h r g e) (headless n i f) = absurd (i h r g)
one bytes a b (headed m h r g e) (headed n k q i f) = heads_one bytes h k r q a b g i e f

-- what was given is what the bytes answer, unless memory ran out
pub only_answer : (bytes : List ℕ) (r : Result (List ℕ) ReplyError) → Gives r (Replies bytes) → (answer : Result (List ℕ) ReplyError) → Replies bytes answer → IsOrMemory r answer
only_answer bytes (Ok body) h answer k = one bytes (Ok body) answer (answered bytes (Ok body) h) (answered bytes answer k)
only_answer bytes (Err Memory) h answer k = tt
only_answer bytes (Err fault) h answer k = one bytes (Err fault) answer (answered bytes (Err fault) h) (answered bytes answer k)
