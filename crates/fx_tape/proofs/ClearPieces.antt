-- Exchanges: bytes begin with one at most.
use Rattle.std.proofs.Common.{◌≡◌, ◌≢◌, ◌∙◌, ap, sym, refl, ℕ, inr, List, [], ◌∷◌, ◌++◌, codes, Option, Some, None, append_assoc, arith}
use Rattle.std.proofs.lemmas.List.{append_cancel_left}
use Rattle.fx_tape.specs.Exchanges.{failed, failed_at, failed_size, failed_block, failed_exchange, answered, answered_at, answered_size, answered_reply_size, answered_request, answered_reply, answered_exchange, answered_or_end, next, exchanges, tape, tape_block, tape_behind, tape_of}
use Rattle.fx_tape.specs.Pieces.{word, number, block}
use Rattle.fx_tape.specs.Spellings.{IsClear, made}
use Rattle.fx_tape.specs.declared.tapes.Exchange.{Exchange}
use Rattle.fx_tape.proofs.PieceLemmas.{clear_word, clear_number, clear_block}
use Rattle.fx_tape.proofs.SpellingLemmas.{clear_then, clear_made, clear_either}

pub clear_at : IsClear (number 0 63 32)
clear_at = clear_number 0 63 32 (omega arith) (omega arith) (omega arith) (omega arith)

pub clear_size : IsClear (number 0 67174400 32)
clear_size = clear_number 0 67174400 32 (omega arith) (omega arith) (omega arith) (omega arith)

pub clear_last_size : IsClear (number 0 67174400 10)
clear_last_size = clear_number 0 67174400 10 (omega arith) (omega arith) (omega arith) (omega arith)

pub clear_rows : IsClear (number 1 64 10)
clear_rows = clear_number 1 64 10 (omega arith) (omega arith) (omega arith) (omega arith)

-- ---- words

pub clear_failed_word : IsClear (word (codes "ailed "))
clear_failed_word = clear_word 97 (codes "iled ")

pub clear_answered_word : IsClear (word (codes "change "))
clear_answered_word = clear_word 99 (codes "hange ")

pub clear_end_word : IsClear (word (codes "d\n"))
clear_end_word = clear_word 100 (codes "\n")

pub clear_head_word : IsClear (word (codes "fedx transcript 1 block "))
clear_head_word = clear_word 102 (codes "edx transcript 1 block ")

-- ---- exchanges

pub clear_failed_block : (at size : ℕ) → IsClear (failed_block at size)
clear_failed_block at size = clear_made (failed_exchange at) (block size) (clear_block size)

pub clear_failed_size : (at : ℕ) → IsClear (failed_size at)
clear_failed_size at = clear_then (number 0 67174400 10) (failed_block at) clear_last_size (clear_failed_block at)

pub clear_failed_at : IsClear failed_at
clear_failed_at = clear_then (number 0 63 32) failed_size clear_at clear_failed_size

pub clear_failed : IsClear failed
unfolding failed
clear_failed = clear_then (word (codes "ailed ")) (λ u. failed_at) clear_failed_word (λ u. clear_failed_at)

pub clear_answered_reply : (at size : ℕ) (request : List ℕ) → IsClear (answered_reply at size request)
clear_answered_reply at size request = clear_made (answered_exchange at request) (block size) (clear_block size)

pub clear_answered_request : (at size reply_size : ℕ) → IsClear (answered_request at size reply_size)
clear_answered_request at size reply_size = clear_then (block size) (answered_reply at reply_size) (clear_block size) (clear_answered_reply at reply_size)

pub clear_answered_reply_size : (at size : ℕ) → IsClear (answered_reply_size at size)
clear_answered_reply_size at size = clear_then (number 0 67174400 10) (answered_request at size) clear_last_size (clear_answered_request at size)

pub clear_answered_size : (at : ℕ) → IsClear (answered_size at)
clear_answered_size at = clear_then (number 0 67174400 32) (answered_reply_size at) clear_size (clear_answered_reply_size at)

pub clear_answered_at : IsClear answered_at
clear_answered_at = clear_then (number 0 63 32) answered_size clear_at clear_answered_size

pub clear_answered : IsClear answered
unfolding answered
clear_answered = clear_then (word (codes "change ")) (λ u. answered_at) clear_answered_word (λ u. clear_answered_at)

pub x_or_n : ◌≢◌ {A = ℕ} 120 110
x_or_n e = absurd (omega arith)

pub f_or_e : ◌≢◌ {A = ℕ} 102 101
f_or_e e = absurd (omega arith)

pub clear_some_answered : IsClear (made Some answered)
clear_some_answered = clear_made Some answered clear_answered

pub clear_some_failed : IsClear (made Some failed)
clear_some_failed = clear_made Some failed clear_failed

pub clear_no_more : IsClear (made {B = Option Exchange} (λ u. None) (word (codes "d\n")))
clear_no_more = clear_made (λ u. None) (word (codes "d\n")) clear_end_word

pub clear_answered_or_end : IsClear answered_or_end
unfolding answered_or_end
clear_answered_or_end = clear_either 120 (made Some answered) 110 (made (λ u. None) (word (codes "d\n"))) x_or_n clear_some_answered clear_no_more

pub clear_next : IsClear next
unfolding next
clear_next = clear_either 102 (made Some failed) 101 answered_or_end f_or_e clear_some_failed clear_answered_or_end

-- ---- several

pub end_word : List ℕ
end_word = 101 ∷ 110 ∷ codes "d\n"

pub ends_next : next end_word None
unfolding end_word next answered_or_end
ends_next = inr (110 ∷ codes "d\n", refl, inr (codes "d\n", refl, (tt, refl, refl)))

exchanges_same : (xs ys : List Exchange) (u v r t : List ℕ) → exchanges u xs → exchanges v ys → u ++ r ≡ v ++ t → (u ≡ v) × (xs ≡ ys)
unfolding exchanges
exchanges_same [] [] u v r t h k e = let p = clear_next.same u v r t None None h k e in (p.0, refl)
exchanges_same [] (y ∷ ys) u v r t h k e =
    let all : u ++ r ≡ k.0 ++ (k.1 ++ t) = e ∙ ap (λ (z : List ℕ). z ++ t) k.2 ∙ append_assoc k.0 k.1 t in
    let p = clear_next.same u k.0 r (k.1 ++ t) None (Some y) h k.3 all in
    absurd (cc (p.1))
exchanges_same (x ∷ xs) [] u v r t h k e =
    let all : h.0 ++ (h.1 ++ r) ≡ v ++ t = sym (append_assoc h.0 h.1 r) ∙ ap (λ (z : List ℕ). z ++ r) (sym h.2) ∙ e in
    let p = clear_next.same h.0 v (h.1 ++ r) t (Some x) None h.3 k all in
    absurd (cc (p.1))
exchanges_same (x ∷ xs) (y ∷ ys) u v r t h k e =
    let all : h.0 ++ (h.1 ++ r) ≡ k.0 ++ (k.1 ++ t) = sym (append_assoc h.0 h.1 r) ∙ ap (λ (z : List ℕ). z ++ r) (sym h.2) ∙ e ∙ ap (λ (z : List ℕ). z ++ t) k.2 ∙ append_assoc k.0 k.1 t in
    let p = clear_next.same h.0 k.0 (h.1 ++ r) (k.1 ++ t) (Some x) (Some y) h.3 k.3 all in
    let back : h.1 ++ r ≡ k.1 ++ t = append_cancel_left k.0 (h.1 ++ r) (k.1 ++ t) (ap (λ (z : List ℕ). z ++ (h.1 ++ r)) (sym p.0) ∙ all) in
    let q = exchanges_same xs ys h.1 k.1 r t h.4 k.4 back in
    let first : x ≡ y = cc (p.1) in
    (h.2 ∙ ap (λ (z : List ℕ). z ++ h.1) p.0 ∙ ap (λ (z : List ℕ). k.0 ++ z) q.0 ∙ sym k.2, ap (λ (z : Exchange). z ∷ xs) first ∙ ap (λ (z : List Exchange). y ∷ z) q.1)

pub clear_exchanges : IsClear exchanges
unfolding exchanges end_word
clear_exchanges = record { first = 101; others = 110 ∷ codes "d\n"; value = []; some = ends_next; same = λ u v r t xs ys h k e. exchanges_same xs ys u v r t h k e }

pub clear_tape_behind : (block : ℕ) → IsClear (tape_behind block)
clear_tape_behind block = clear_made (tape_of block) exchanges clear_exchanges

pub clear_tape_block : IsClear tape_block
clear_tape_block = clear_then (number 1 64 10) tape_behind clear_rows clear_tape_behind

pub clear_tape : IsClear tape
unfolding tape
clear_tape = clear_then (word (codes "fedx transcript 1 block ")) (λ u. tape_block) clear_head_word (λ u. clear_tape_block)
