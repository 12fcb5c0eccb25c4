-- The values of a JSON object's members.
use Rattle.std.proofs.Common.{ℕ, ◌≡◌, ◌<◌, ◌^◌, true, List, ◌∷◌, ◌++◌, refl, sym, ap, ◌∙◌, arith, drop}
use Rattle.std.specs.Prelude.{decimal, not}
use Rattle.std.proofs.lemmas.Bool.Decides.{nat_tests}
use Rattle.text.specs.Parts.{before, from}
use Rattle.text.specs.Stop.{colon, comma, is_stop, is_within}
use Rattle.text.specs.declared.stop.Stop.{Stop}
use Rattle.text.specs.declared.stop.Stop.TheVariants.{Byte}
use Rattle.text.proofs.BytesLemmas.{all-weaker}
use Rattle.text.proofs.CutLemmas.{Lacks, before-append, from-append}
use Rattle.text.proofs.DecimalLemmas.{digits-decimal}
use Rattle.surveys.specs.Lines.{member}
use Rattle.surveys.proofs.Words.{rest, word}

pub word_of : (stop : Stop) (front w : List ℕ) (c : ℕ) (behind : List ℕ) → Lacks colon front → Lacks stop w → is_stop stop c ≡ true → word stop (member front w (c ∷ behind)) ≡ w
word_of stop front w c behind free none is =
    ap (λ x. before stop (drop 1 x)) (from-append colon front 58 (w ++ c ∷ behind) free refl) ∙ before-append stop w c behind none is

pub rest_of : (stop : Stop) (front w : List ℕ) (c : ℕ) (behind : List ℕ) → Lacks colon front → Lacks stop w → is_stop stop c ≡ true → rest stop (member front w (c ∷ behind)) ≡ c ∷ behind
rest_of stop front w c behind free none is =
    ap (λ x. from stop (drop 1 x)) (from-append colon front 58 (w ++ c ∷ behind) free refl) ∙ from-append stop w c behind none is

-- If two texts that begin with a member are equal, the values of the members are equal.
pub same_word : (stop : Stop) (front w v : List ℕ) (c : ℕ) (behind after : List ℕ) → Lacks colon front → Lacks stop w → Lacks stop v → is_stop stop c ≡ true → member front w (c ∷ behind) ≡ member front v (c ∷ after) → w ≡ v
same_word stop front w v c behind after free none lack is e = sym (word_of stop front w c behind free none is) ∙ (ap (word stop) e ∙ word_of stop front v c after free lack is)

pub same_rest : (stop : Stop) (front w v : List ℕ) (c : ℕ) (behind after : List ℕ) → Lacks colon front → Lacks stop w → Lacks stop v → is_stop stop c ≡ true → member front w (c ∷ behind) ≡ member front v (c ∷ after) → c ∷ behind ≡ c ∷ after
same_rest stop front w v c behind after free none lack is e = sym (rest_of stop front w c behind free none is) ∙ (ap (rest stop) e ∙ rest_of stop front v c after free lack is)

-- A digit is not a comma.
no_comma : (c : ℕ) → is_within 48 57 c ≡ true → not (is_stop comma c) ≡ true
no_comma c h = grind (arith, nat_tests)

no_brace : (c : ℕ) → is_within 48 57 c ≡ true → not (is_stop (Byte 125) c) ≡ true
no_brace c h = grind (arith, nat_tests)

pub decimal_lacks_comma : (n : ℕ) → n < 2 ^ 64 → Lacks comma (decimal n)
decimal_lacks_comma n lt = all-weaker (is_within 48 57) (λ c. not (is_stop comma c)) no_comma (decimal n) (digits-decimal n lt)

pub decimal_lacks_brace : (n : ℕ) → n < 2 ^ 64 → Lacks (Byte 125) (decimal n)
decimal_lacks_brace n lt = all-weaker (is_within 48 57) (λ c. not (is_stop (Byte 125) c)) no_brace (decimal n) (digits-decimal n lt)
