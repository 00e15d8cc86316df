-- What a wire that answers by a script has answered, and what it will.
use Rattle.std.specs.Prelude.{◌≡◌, ◌≢◌, ℕ, ◌+◌, Bool, List, [], map, filter, take, drop, cond, bytes_eq, slice_get, Option, Vec}
use Rattle.std.specs.Option.{option_map}
use Rattle.std.specs.Ordering.{is_eq}
use Rattle.std.specs.declared.alloc.Global.{Global}
use Rattle.fx_outside.specs.NameCounts.{count_of}
use Rattle.fx_terms.specs.Texts.{text_cmp}
use Rattle.fx_wire.specs.Exchanges.{Exchange, exchanged}
use Rattle.fx_wire.specs.declared.script_wires.Answered.{Answered}
use Rattle.fx_wire.specs.declared.script_wires.ScriptWire.{ScriptWire}

abbrev pub exchange_of : Answered → Exchange
exchange_of a = exchanged a.at a.request.items a.reply.items

-- the exchanges that were answered, as the wire keeps them
abbrev pub answered_in : ScriptWire → List Answered
answered_in wire = wire.log.items

-- the exchanges that were answered
abbrev pub log_in : ScriptWire → List Exchange
log_in wire = map exchange_of (answered_in wire)

-- how many exchanges at an address have failed
abbrev pub faults_in : ScriptWire → List ℕ → ℕ
faults_in wire address = count_of wire.faults address

-- whether a reply is for an address
abbrev pub is_for : List ℕ → List ℕ × Vec ℕ Global → Bool
is_for address reply = is_eq (text_cmp reply.0 address)

-- the replies for an address, in order
abbrev pub replies_for : List (List ℕ × Vec ℕ Global) → List ℕ → List (List ℕ)
replies_for replies address = map (λ reply. reply.1.items) (filter (is_for address) replies)

-- the replies that an address still has
abbrev pub replies_left : ScriptWire → List ℕ → List (List ℕ)
replies_left wire address = replies_for wire.replies.items address

-- what the next exchange at an address replies: the first bytes of the first reply that the address still has, or nothing where none is left
abbrev pub next_front : ScriptWire → List ℕ → ℕ → Option (List ℕ)
next_front wire address limit = option_map (take (limit + 1)) (slice_get (replies_left wire address) 0)

-- a wire that was just made
pub record IsFreshWire (wire : ScriptWire) (replies : List (List ℕ × Vec ℕ Global)) : Type 0 where
  pub script : (address : List ℕ) → replies_left wire address ≡ replies_for replies address
  pub silent : log_in wire ≡ []
  pub faultless : (address : List ℕ) → faults_in wire address ≡ 0

-- a wire after a reply to an address: that reply is gone, each other is left, and no exchange failed
pub record IsAfterReply (before after : ScriptWire) (address : List ℕ) : Type 0 where
  pub taken : replies_left after address ≡ drop 1 (replies_left before address)
  pub others : (other : List ℕ) → other ≢ address → replies_left after other ≡ replies_left before other
  pub faultless : (other : List ℕ) → faults_in after other ≡ faults_in before other

-- a wire after a fault at an address: one more is counted there, and each reply is left
pub record IsAfterFault (before after : ScriptWire) (address : List ℕ) : Type 0 where
  pub left : (other : List ℕ) → replies_left after other ≡ replies_left before other
  pub counted : (other : List ℕ) → faults_in after other ≡ faults_in before other + cond (bytes_eq address other) 1 0

-- a wire that still has each reply, and on which no exchange failed
pub record IsUntouched (before after : ScriptWire) : Type 0 where
  pub left : (other : List ℕ) → replies_left after other ≡ replies_left before other
  pub faultless : (other : List ℕ) → faults_in after other ≡ faults_in before other
