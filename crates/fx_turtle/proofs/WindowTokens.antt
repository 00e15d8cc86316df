-- The windows of a text, one after the other, are its tokens.
use Rattle.std.proofs.Common.{All, Bool, true, false, cond, ◌||◌, map, ◌≡◌, ◌∙◌, ◌⊎◌, inl, inr, ℕ, ◌+◌, ◌-◌, ◌<◌, ◌≤◌, List, [], ◌∷◌, ◌++◌, length, drop, Result, Ok, Err, refl, sym, ap, subst, arith, append_assoc, append-nil, length-append, length-drop}
use Rattle.std.specs.Prelude.{codes}
use Rattle.std.specs.Char.{to_ascii_uppercase}
use Rattle.std.specs.Str.{bytes_eq, chars, IsUtf8, IsCharBoundary}
use Rattle.std.proofs.lemmas.List.{drop-append-le, map-append, length-map}
use Rattle.std.proofs.lemmas.List.Elements.{All-nil, All-append, All-cons, All-head, All-tail}
use Rattle.std.proofs.lemmas.Str.{IsCharBoundary-start}
use Rattle.std.proofs.Math.Seq.{drop-append-add}
use Rattle.fx_terms.specs.Datatypes.{xsd_boolean}
use Rattle.fx_terms.specs.Iris.{read_iri}
use Rattle.fx_terms.specs.declared.iris.TermError.{TermError}
use Rattle.fx_terms.specs.declared.triples.Triple.{Triple}
use Rattle.fx_tokens.specs.Answers.{UnlessMemory}
use Rattle.fx_tokens.specs.Decoding.{iri_text}
use Rattle.fx_tokens.specs.Reads.{Reads, IsSlice, IsNext, with_front}
use Rattle.fx_tokens.specs.declared.Token as read
use Rattle.fx_tokens.specs.declared.TokenKind.{TokenKind}
use Rattle.fx_tokens.specs.declared.TokenKind.TheVariants as token
use Rattle.fx_tokens.specs.declared.TokenError.{TokenError}
use Rattle.fx_tokens.specs.declared.TokenError.TheVariants.{Bad, Memory as NoMemory}
use Rattle.fx_tokens.proofs.One.{one_answer}
use Rattle.fx_grammar.specs.Grammar.{Prefixes, typed_parts}
use Rattle.fx_grammar.specs.Refused.{place_at, place_of}
use Rattle.fx_turtle.specs.Answers.{IsCause, NoToken, RefusesAt, StandsWithin, bad_token}
use Rattle.fx_turtle.specs.Documents.{IsTurtle, IsRefused, no_token, no_document}
use Rattle.fx_turtle.specs.Grammar.{document}
use Rattle.fx_turtle.specs.Rule.{Refusal, read_whole}
use Rattle.fx_turtle.specs.Sources.{Tokened, left}
use Rattle.fx_turtle.specs.Symbols as symbol
use Rattle.fx_turtle.specs.Symbols.{Symbol, says, symbols}
use Rattle.fx_turtle.specs.Windows.{with_tokens, ReadsTo, EndsInDot, DotsEnd, Filled, StopsFor, rest_of_document}
use Rattle.fx_turtle.specs.declared.faults.Fault.{Fault}
use Rattle.fx_turtle.specs.declared.faults.Fault.TheVariants as fault
use Rattle.fx_turtle.specs.declared.refusals.TurtleKind.{TurtleKind}
use Rattle.fx_turtle.specs.declared.refusals.TurtleError.{TurtleError}
use Rattle.fx_turtle.specs.declared.refusals.TurtleError.TheVariants.{Refused, Memory}
use Rattle.fx_turtle.specs.declared.kinds.Kind.TheVariants as k
use Rattle.fx_turtle.specs.declared.windows.Position.{Position}
use Rattle.fx_turtle.proofs.GrammarDots.{dot}
use Rattle.fx_turtle.proofs.GrammarLaws.{document_read_as_spelled, document_refused_as_stopped}
use Rattle.fx_turtle.proofs.Whole.{document_begins, document_ends}

abbrev Answer : Type 0
Answer = Result (List read.Token) TokenError

-- ---- tokens in front of an answer

with_none : (a : Answer) → with_tokens [] a ≡ a
with_none (Ok more) = refl
with_none (Err e) = refl

with_next : (ts : List read.Token) (t : read.Token) (a : Answer) → with_tokens ts (with_front t a) ≡ with_tokens (ts ++ t ∷ []) a
with_next ts t (Ok more) = ap (λ (v : List read.Token). Ok v) (sym (append_assoc ts (t ∷ []) more))
with_next ts t (Err e) = refl

with_more : (ts us : List read.Token) (a : Answer) → with_tokens ts (with_tokens us a) ≡ with_tokens (ts ++ us) a
with_more ts us (Ok more) = ap (λ (v : List read.Token). Ok v) (sym (append_assoc ts us more))
with_more ts us (Err e) = refl

-- ---- from one place to another

pub reads_none : (bytes : List ℕ) (at : ℕ) → IsCharBoundary bytes at → ReadsTo bytes at at []
reads_none bytes at cut = record {
  cut = cut;
  slices = All-nil (IsSlice bytes);
  long = omega arith;
  reads = λ answer r. subst (λ (a : Answer). Reads at (chars (drop at bytes)) a) (sym (with_none answer)) r;
}

pub reads_next : (bytes : List ℕ) (from at : ℕ) (tokens : List read.Token) (t : read.Token) → ReadsTo bytes from at tokens → IsNext bytes at t → ReadsTo bytes from t.end (tokens ++ t ∷ [])
reads_next bytes from at tokens t r n = record {
  cut = n.slice.to;
  slices = All-append (IsSlice bytes) tokens (t ∷ []) r.slices (All-cons (IsSlice bytes) t [] n.slice (All-nil (IsSlice bytes)));
  long = omega (arith, r.long, n.rises, n.slice.some, length-append tokens (t ∷ []));
  reads = λ answer h. subst (λ (a : Answer). Reads from (chars (drop from bytes)) a) (with_next tokens t answer) (r.reads (with_front t answer) (n.reads answer h));
}

pub reads_more : (bytes : List ℕ) (from mid to : ℕ) (ts us : List read.Token) → ReadsTo bytes from mid ts → ReadsTo bytes mid to us → ReadsTo bytes from to (ts ++ us)
reads_more bytes from mid to ts us r s = record {
  cut = s.cut;
  slices = All-append (IsSlice bytes) ts us r.slices s.slices;
  long = omega (arith, r.long, s.long, length-append ts us);
  reads = λ answer h. subst (λ (a : Answer). Reads from (chars (drop from bytes)) a) (with_more ts us answer) (r.reads (with_tokens us answer) (s.reads answer h));
}

pub next_smaller : (bytes : List ℕ) (at : ℕ) (t : read.Token) → IsNext bytes at t → length bytes - t.end < length bytes - at
next_smaller bytes at t n = omega (arith, n.rises, n.slice.some, n.slice.within)

-- ---- dots

abbrev pub IsOther : List ℕ → read.Token → Type 0
IsOther bytes t = says bytes t ≡ dot → ⊥

pub others_none : (bytes : List ℕ) → All (IsOther bytes) []
others_none bytes = All-nil (IsOther bytes)

pub others_next : (bytes : List ℕ) (tokens : List read.Token) (t : read.Token) → All (IsOther bytes) tokens → IsOther bytes t → All (IsOther bytes) (tokens ++ t ∷ [])
others_next bytes tokens t h o = All-append (IsOther bytes) tokens (t ∷ []) h (All-cons (IsOther bytes) t [] o (All-nil (IsOther bytes)))

pub no_dots : (bytes : List ℕ) (tokens : List read.Token) → All (IsOther bytes) tokens → DotsEnd bytes tokens
no_dots bytes [] h = tt
no_dots bytes (t ∷ tokens) h = (λ e. absurd (All-head (IsOther bytes) t tokens h e), no_dots bytes tokens (All-tail (IsOther bytes) t tokens h))

pub dot_ends : (bytes : List ℕ) (tokens : List read.Token) (t : read.Token) → All (IsOther bytes) tokens → DotsEnd bytes (tokens ++ t ∷ [])
dot_ends bytes [] t h = (λ e. refl, tt)
dot_ends bytes (u ∷ tokens) t h = (λ e. absurd (All-head (IsOther bytes) u tokens h e), dot_ends bytes tokens t (All-tail (IsOther bytes) u tokens h))

iri_no_dot : (r : Result (List ℕ) TermError) → symbol.iri_or r ≡ dot → ⊥
iri_no_dot (Ok a) e = cc e
iri_no_dot (Err r) e = cc e

word_no_dot : (form : List ℕ) → symbol.word_of form ≡ dot → ⊥
word_no_dot form = go (bytes_eq form (codes "a")) (bytes_eq form (codes "true") || bytes_eq form (codes "false")) (bytes_eq (map to_ascii_uppercase form) (codes "PREFIX")) (bytes_eq (map to_ascii_uppercase form) (codes "BASE"))
  where
    go : (a b c d : Bool) → cond a (symbol.plain k.A) (cond b (symbol.truth (typed_parts form xsd_boolean)) (symbol.plain (cond c k.Prefix (cond d k.Base k.Other)))) ≡ dot → ⊥
    go true b c d e = cc e
    go false true c d e = cc e
    go false false true d e = cc e
    go false false false true e = cc e
    go false false false false e = cc e

-- what is no mark says no dot
pub no_mark : (kind : TokenKind) (form : List ℕ) → (kind ≡ token.Mark → ⊥) → symbol.symbol_of kind form ≡ dot → ⊥
no_mark token.Iri form h e = iri_no_dot (read_iri (iri_text form)) e
no_mark token.PrefixName form h e = cc e
no_mark token.Variable form h e = cc e
no_mark token.Blank form h e = cc e
no_mark token.Tag form h e = cc e
no_mark token.Integer form h e = cc e
no_mark token.Signed form h e = cc e
no_mark token.Decimal form h e = cc e
no_mark token.Text form h e = cc e
no_mark token.Word form h e = word_no_dot form e
no_mark token.Mark form h e = h refl

-- a mark says a dot where its text is one
pub mark_dot : (form : List ℕ) → bytes_eq form (codes ".") ≡ true → symbol.symbol_of token.Mark form ≡ dot
mark_dot form e = rw e refl

pub dot_mark : (form : List ℕ) → symbol.symbol_of token.Mark form ≡ dot → bytes_eq form (codes ".") ≡ true
dot_mark form = go (bytes_eq form (codes ".")) (bytes_eq form (codes ";")) (bytes_eq form (codes ",")) (bytes_eq form (codes "^^")) (bytes_eq form (codes "[")) (bytes_eq form (codes "("))
  where
    go : (a b c d f g : Bool) → symbol.plain (cond a k.Dot (cond b k.Semicolon (cond c k.Comma (cond d k.CaretCaret (cond f k.LeftBracket (cond g k.LeftParen k.Other)))))) ≡ dot → a ≡ true
    go true b c d f g e = refl
    go false true c d f g e = absurd (cc e)
    go false false true d f g e = absurd (cc e)
    go false false false true f g e = absurd (cc e)
    go false false false false true g e = absurd (cc e)
    go false false false false false true e = absurd (cc e)
    go false false false false false false e = absurd (cc e)

-- a window with its dot
pub ends_in_dot : (bytes : List ℕ) (tokens : List read.Token) (t : read.Token) → says bytes t ≡ dot → EndsInDot (symbols bytes (tokens ++ t ∷ []))
ends_in_dot bytes tokens t e = (symbols bytes tokens, map-append (says bytes) tokens (t ∷ []) ∙ ap (λ (s : Symbol). symbols bytes tokens ++ s ∷ []) e)

pub no_token_there : (bytes : List ℕ) (at : ℕ) (e : TokenError) (s : TurtleError) → UnlessMemory e (Reads at (chars (drop at bytes)) (Err e)) → s ≡ bad_token e → NoToken bytes at s
no_token_there bytes at (Bad place why) s r is = subst (λ (v : TurtleError). NoToken bytes at v) (sym is) (why, r, refl)
no_token_there bytes at NoMemory s r is = subst (λ (v : TurtleError). NoToken bytes at v) (sym is) tt

-- ---- the places of tokens

place_shown : (bytes : List ℕ) (window more : List read.Token) → (0 < length window) ⊎ (more ≡ []) → place_at bytes (window ++ more) ≡ place_at bytes window
place_shown bytes [] more (inl h) = absurd (omega (arith, h))
place_shown bytes [] more (inr e) = ap (place_at bytes) e
place_shown bytes (t ∷ window) more h = refl

place_within : (bytes : List ℕ) (before window more : List read.Token) (left n : ℕ) → n ≡ left + length more → left ≤ length window → (0 < left) ⊎ (more ≡ []) → place_of bytes window left ≡ place_of bytes (before ++ (window ++ more)) n
place_within bytes before window more left n is h some =
    let k : ℕ = length window - left in
    let index : length (before ++ (window ++ more)) - n ≡ length before + k = omega (arith, is, h, length-append before (window ++ more), length-append window more) in
    let same : drop (length (before ++ (window ++ more)) - n) (before ++ (window ++ more)) ≡ drop k window ++ more =
    ap (λ (m : ℕ). drop m (before ++ (window ++ more))) index ∙ drop-append-add before (window ++ more) k ∙ drop-append-le k window more (omega arith) in
    let shown : (0 < length (drop k window)) ⊎ (more ≡ []) = elim some [ inl s ↦ inl (omega (arith, s, h, length-drop k window)) | inr e ↦ inr e ] in
    sym (ap (place_at bytes) same ∙ place_shown bytes (drop k window) more shown)

-- the tokens of a source
pub source_symbols : (source : Tokened) (bytes : List ℕ) (tokens items : List read.Token) → source ≡ (bytes, tokens) → tokens ≡ items → left source 0 ≡ symbols bytes items
unfolding left
source_symbols source bytes tokens items e same = ap (λ (s : Tokened). left s 0) e ∙ ap (symbols bytes) same

-- no token stands somewhere, and nothing was read before
pub none_no_token : (bytes : List ℕ) → IsUtf8 bytes → (e : TurtleError) → NoToken bytes 0 e → IsCause bytes e
none_no_token bytes u Memory h = tt
none_no_token bytes u (Refused kind place) h = no_token u h.0 h.1 h.2

-- ---- how far a document was read

-- before a window that was filled but not read
pub record Come (bytes : List ℕ) (ps : Prefixes) (said : List Triple) (window : List read.Token) (at : Position) : Type 0 where
  pub before : List read.Token
  pub from : ℕ
  pub front : ReadsTo bytes 0 from before
  pub filled : Filled bytes from window at
  pub rest : (rest : List Symbol) → rest_of_document ps said rest ≡ read_whole document (symbols bytes before ++ rest)

pub come_first : (bytes : List ℕ) (window : List read.Token) (at : Position) → IsUtf8 bytes → Filled bytes 0 window at → Come bytes [] [] window at
come_first bytes window at u f = record { before = []; from = 0; front = reads_none bytes 0 (IsCharBoundary-start bytes u); filled = f; rest = λ rest. document_begins rest }

module _ (bytes : List ℕ) (ps : Prefixes) (said : List Triple) (window : List read.Token) (at : Position) (c : Come bytes ps said window at) where
  pub come_reads : ReadsTo bytes 0 at.place (c.before ++ window)
  come_reads = reads_more bytes 0 c.from at.place c.before window c.front c.filled.reads

  -- the window is read, and the next one filled
  pub come_on : (qs : Prefixes) (all : List Triple) (next : List read.Token) (to : Position) → ((rest : List Symbol) → rest_of_document qs all rest ≡ rest_of_document ps said (symbols bytes window ++ rest)) → Filled bytes at.place next to → Come bytes qs all next to
  come_on qs all next to h f = record {
    before = c.before ++ window;
    from = at.place;
    front = come_reads;
    filled = f;
    rest = λ rest. h rest ∙ c.rest (symbols bytes window ++ rest)
        ∙ ap (λ (ts : List Symbol). read_whole document ts) (sym (append_assoc (symbols bytes c.before) (symbols bytes window) rest) ∙ ap (λ (ts : List Symbol). ts ++ rest) (sym (map-append (says bytes) c.before window)));
  }

  pub come_smaller : (next : List read.Token) (to : Position) → 0 < length window → Filled bytes at.place next to → length bytes - to.place + length next < length bytes - at.place + length window
  come_smaller next to some f = omega (arith, some, f.reads.long, f.reads.cut.0)

  -- no window is left
  pub come_end : IsUtf8 bytes → length window ≡ 0 → IsTurtle bytes said
  come_end u none = go window none c.filled
    where
      go : (w : List read.Token) → length w ≡ 0 → Filled bytes c.from w at → IsTurtle bytes said
      go (t ∷ w) none f = absurd (omega (arith, none))
      go [] none f = elim f.closed [
        | inl d ↦ absurd (omega (arith, ap (λ (v : List Symbol). length v) d.1, length-append d.0 (dot ∷ [])))
        | inr r ↦ record {
          utf8 = u;
          tokens = c.before;
          lexed = subst (λ (v : List read.Token). Reads 0 (chars bytes) (Ok v)) (append-nil c.before) (c.front.reads (Ok []) (f.reads.reads (Ok []) r));
          spelled = document_read_as_spelled.0 (symbols bytes c.before) said
              (ap (λ (ts : List Symbol). read_whole document ts) (sym (append-nil (symbols bytes c.before))) ∙ sym (c.rest []) ∙ document_ends ps said [] refl);
        }
      ]

  -- no token stands somewhere behind the window
  pub come_no_token : IsUtf8 bytes → (e : TurtleError) → NoToken bytes at.place e → IsCause bytes e
  come_no_token u Memory h = tt
  come_no_token u (Refused kind place) h = no_token u h.0 (come_reads.reads (Err (Bad place h.0)) h.1) h.2

  -- the tokens of the whole, where those behind the window are known
  all_tokens : (more : List read.Token) → Reads at.place (chars (drop at.place bytes)) (Ok more) → Reads 0 (chars bytes) (Ok (c.before ++ (window ++ more)))
  all_tokens more r = c.front.reads (Ok (window ++ more)) (c.filled.reads.reads (Ok more) r)

  ok_items : (a b : List read.Token) (x y : Answer) → x ≡ Ok a → y ≡ Ok b → x ≡ y → a ≡ b
  ok_items a b x y e f g = cc (e, f, g)

  -- a window is followed by anything behind its dot, and else by nothing
  closed_so : (more : List read.Token) → Reads at.place (chars (drop at.place bytes)) (Ok more) → EndsInDot (symbols bytes window) ⊎ (more ≡ [])
  closed_so more r = elim c.filled.closed [
    | inl d ↦ inl d
    | inr h ↦ inr (ok_items more [] (Ok more) (Ok []) refl refl (one_answer at.place (chars (drop at.place bytes)) (Ok more) (Ok []) r h))
  ]

  stops_whole_there : (why : TurtleKind) (left : ℕ) (more : List read.Token) → StopsFor ps said (symbols bytes window) (fault.Refused why left) → Reads at.place (chars (drop at.place bytes)) (Ok more) → IsUtf8 bytes
      → IsRefused bytes why (place_of bytes window left)
  stops_whole_there why left more s r u =
      let tokens : List read.Token = c.before ++ (window ++ more) in
      let n : ℕ = left + length (symbols bytes more) in
      let refusal : Refusal = record { why = why; left = n } in
      let said_by : symbols bytes tokens ≡ symbols bytes c.before ++ (symbols bytes window ++ symbols bytes more) =
      map-append (says bytes) c.before (window ++ more) ∙ ap (λ (ts : List Symbol). symbols bytes c.before ++ ts) (map-append (says bytes) window more) in
      let closed : EndsInDot (symbols bytes window) ⊎ (symbols bytes more ≡ []) = elim (closed_so more r) [ inl d ↦ inl d | inr e ↦ inr (ap (symbols bytes) e) ] in
      let shown : (0 < left) ⊎ (more ≡ []) = elim (closed_so more r) [ inl d ↦ inl (s.inside d) | inr e ↦ inr e ] in
      let refused : read_whole document (symbols bytes tokens) ≡ Err refusal = ap (λ (ts : List Symbol). read_whole document ts) said_by ∙ sym (c.rest (symbols bytes window ++ symbols bytes more)) ∙ s.stops (symbols bytes more) closed in
      let count : n ≡ left + length more = omega (arith, length-map more (says bytes)) in
      let few : left ≤ length window = omega (arith, s.within, length-map window (says bytes)) in
      no_document u tokens (all_tokens more r) refusal (document_refused_as_stopped.0 (symbols bytes tokens) refusal refused) refl (place_within bytes c.before window more left n count few shown)

  no_token_behind : IsUtf8 bytes → (error : TokenError) → Reads at.place (chars (drop at.place bytes)) (Err error) → IsCause bytes (bad_token error)
  no_token_behind u (Bad place why) r = no_token u why (come_reads.reads (Err (Bad place why)) r) refl
  no_token_behind u NoMemory r = tt

  -- the window is refused
  pub come_stops : IsUtf8 bytes → (f : Fault) (e : TurtleError) → StopsFor ps said (symbols bytes window) f → RefusesAt bytes window at.place f e → IsCause bytes e
  come_stops u fault.Memory e s r = subst (λ (v : TurtleError). IsCause bytes v) (sym r) tt
  come_stops u (fault.Refused why left) e s (inl r) = subst (λ (v : TurtleError). IsCause bytes v) (sym r.2) (stops_whole_there why left r.0 s r.1 u)
  come_stops u (fault.Refused why left) e s (inr r) = subst (λ (v : TurtleError). IsCause bytes v) (sym r.2) (no_token_behind u r.0 r.1)

  pub come_few : (f : Fault) → StopsFor ps said (symbols bytes window) f → StandsWithin (length window) f
  come_few fault.Memory s = tt
  come_few (fault.Refused why left) s = omega (arith, s.within, length-map window (says bytes))
