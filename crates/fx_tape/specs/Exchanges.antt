-- The bytes of exchanges and of tapes, piece by piece.
use Rattle.std.specs.Prelude.{◌≡◌, ℕ, List, [], ◌∷◌, ◌++◌, codes, Option, Some, None}
use Rattle.fx_tape.specs.Pieces.{word, number, block}
use Rattle.fx_tape.specs.Spellings.{Spelling, then_by, made, either_by}
use Rattle.fx_tape.specs.declared.tapes.Exchange.{Exchange}
use Rattle.fx_tape.specs.declared.tapes.Tape.{Tape}

abbrev pub failed_exchange : ℕ → List ℕ → Exchange
failed_exchange at request = record { at = at; request = request; reply = None }

abbrev pub answered_exchange : ℕ → List ℕ → List ℕ → Exchange
answered_exchange at request reply = record { at = at; request = request; reply = Some reply }

-- one that failed: the rest of its word, the endpoint, the bytes of the request, and the request
abbrev pub failed_block : ℕ → ℕ → Spelling Exchange
failed_block at size = made (failed_exchange at) (block size)

abbrev pub failed_size : ℕ → Spelling Exchange
failed_size at = then_by (number 0 67174400 10) (failed_block at)

abbrev pub failed_at : Spelling Exchange
failed_at = then_by (number 0 63 32) failed_size

-- behind the f of its word
unfoldable pub failed : Spelling Exchange
failed = then_by (word (codes "ailed ")) (λ u. failed_at)

-- one with a reply: the rest of its word, the endpoint, the bytes of the request and of the reply, and both
abbrev pub answered_reply : ℕ → ℕ → List ℕ → Spelling Exchange
answered_reply at reply_size request = made (answered_exchange at request) (block reply_size)

abbrev pub answered_request : ℕ → ℕ → ℕ → Spelling Exchange
answered_request at size reply_size = then_by (block size) (answered_reply at reply_size)

abbrev pub answered_reply_size : ℕ → ℕ → Spelling Exchange
answered_reply_size at size = then_by (number 0 67174400 10) (answered_request at size)

abbrev pub answered_size : ℕ → Spelling Exchange
answered_size at = then_by (number 0 67174400 32) (answered_reply_size at)

abbrev pub answered_at : Spelling Exchange
answered_at = then_by (number 0 63 32) answered_size

-- behind the first two bytes of its word
unfoldable pub answered : Spelling Exchange
answered = then_by (word (codes "change ")) (λ u. answered_at)

-- an exchange with a reply, or the end of a tape, behind an e
unfoldable pub answered_or_end : Spelling (Option Exchange)
answered_or_end = either_by 120 (made Some answered) 110 (made (λ u. None) (word (codes "d\n")))

-- an exchange, or the end of a tape
unfoldable pub next : Spelling (Option Exchange)
next = either_by 102 (made Some failed) 101 answered_or_end

-- exchanges, and the end of a tape
unfoldable pub exchanges : Spelling (List Exchange)
exchanges bytes [] = next bytes None
exchanges bytes (e ∷ es) = (front back : List ℕ) × (bytes ≡ front ++ back) × next front (Some e) × exchanges back es

abbrev pub tape_of : ℕ → List Exchange → Tape
tape_of block es = record { block = block; exchanges = es }

abbrev pub tape_behind : ℕ → Spelling Tape
tape_behind block = made (tape_of block) exchanges

abbrev pub tape_block : Spelling Tape
tape_block = then_by (number 1 64 10) tape_behind

-- the bytes of a tape
unfoldable pub tape : Spelling Tape
tape = then_by (word (codes "fedx transcript 1 block ")) (λ u. tape_block)
