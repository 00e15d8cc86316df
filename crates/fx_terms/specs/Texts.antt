-- The order of texts: by code points. In UTF-8 that is the order of bytes.
use Rattle.std.specs.Prelude.{◌≡◌, ℕ, true, List}
use Rattle.std.proofs.Common.{◌∙◌}
use Rattle.std.specs.declared.cmp.Ordering.{Ordering}
use Rattle.std.specs.Ordering.{nat_cmp, eq_by_cmp}
use Rattle.std.specs.Cmp.{IsTotalOrder}
use Rattle.std.specs.Cmp.Lexicographic.{slice_cmp, texts_ties, bytes_decides}
use Rattle.std.proofs.lemmas.Cmp.{nat_list_cmp_total}

abbrev pub text_cmp : List ℕ → List ℕ → Ordering
text_cmp = slice_cmp nat_cmp

pub texts_total : IsTotalOrder text_cmp
texts_total = nat_list_cmp_total

-- texts that tie are one text
pub one_text : (a b : List ℕ) → eq_by_cmp text_cmp a b ≡ true → a ≡ b
one_text a b h = (bytes_decides a b).0 (texts_ties a b ∙ h)
