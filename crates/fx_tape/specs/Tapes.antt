-- What a tape is written as, and which tapes can be read again.
use Rattle.std.specs.Prelude.{◌≡◌, ℕ, ◌<◌, ◌≤◌, All, List, [], ◌∷◌, ◌++◌, length, codes, Option, Some, None}
use Rattle.std.specs.Fmt.{decimal}
use Rattle.std.specs.List.{flat_map}
use Rattle.fx_tape.specs.declared.tapes.Exchange.{Exchange}
use Rattle.fx_tape.specs.declared.tapes.Tape.{Tape}

-- bytes, and LF
abbrev pub line : List ℕ → List ℕ
line bytes = bytes ++ 10 ∷ []

-- a number, and a space
abbrev pub spaced : ℕ → List ℕ
spaced n = decimal n ++ 32 ∷ []

-- an exchange with a reply: its line, the request and the reply
abbrev pub answered_text : ℕ → List ℕ → List ℕ → List ℕ
answered_text at request reply =
    codes "exchange " ++ (spaced at ++ (spaced (length request) ++ (line (decimal (length reply)) ++ (line request ++ line reply))))

-- one that failed: its line and the request
abbrev pub failed_text : ℕ → List ℕ → List ℕ
failed_text at request = codes "failed " ++ (spaced at ++ (line (decimal (length request)) ++ line request))

abbrev pub said_text : ℕ → List ℕ → Option (List ℕ) → List ℕ
said_text at request (Some reply) = answered_text at request reply
said_text at request None = failed_text at request

abbrev pub exchange_text : Exchange → List ℕ
exchange_text e = said_text e.at e.request e.reply

-- exchanges, one after the other
abbrev pub exchanges_text : List Exchange → List ℕ
exchanges_text es = flat_map exchange_text es

-- the line at a tape's beginning
abbrev pub head_text : ℕ → List ℕ
head_text block = codes "fedx transcript 1 block " ++ line (decimal block)

-- the bytes of a tape
unfoldable pub tape_text : Tape → List ℕ
tape_text t = head_text t.block ++ (exchanges_text t.exchanges ++ line (codes "end"))

-- ---- ranges

-- a request or a reply has so many bytes at most
abbrev pub IsShort : List ℕ → Type 0
IsShort bytes = length bytes ≤ 67174400

abbrev pub IsReplyInRange : Option (List ℕ) → Type 0
IsReplyInRange (Some reply) = IsShort reply
IsReplyInRange None = Unit {0}

-- the numbers of an exchange
pub record IsExchangeInRange (e : Exchange) : Type 0 where
  pub at : e.at < 64
  pub request : IsShort e.request
  pub reply : IsReplyInRange e.reply

-- the numbers of a tape
pub record IsInRange (t : Tape) : Type 0 where
  pub least : 1 ≤ t.block
  pub most : t.block ≤ 64
  pub exchanges : All IsExchangeInRange t.exchanges

-- the bytes are those of this tape, whose numbers are in range
pub record IsTape (bytes : List ℕ) (t : Tape) : Type 0 where
  pub in_range : IsInRange t
  pub text : bytes ≡ tape_text t

-- what `write_tape` answers of a tape
abbrev pub IsWriting : Tape → List ℕ → Type 0
IsWriting t bytes = bytes ≡ tape_text t
