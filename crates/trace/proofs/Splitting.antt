-- A text made from lines of words is split into the same lines and words again.
use Rattle.std.proofs.Common.{◌≡◌, ℕ, zero, suc, ◌+◌, ◌<◌, ◌≤◌, List, [], ◌∷◌, ◌++◌, map, Bool, true, false, cond, refl, ap, ◌∙◌, arith, append-nil}
use Rattle.std.specs.Prelude.{◌==◌, not, decimal, nat_lt, ◌/◌, ◌%◌}
use Rattle.std.specs.Fmt.{digits, digits_onto, digit_glyph}
use Rattle.std.proofs.lemmas.Bool.{ne_eqb, and_from}
use Rattle.text.specs.declared.stop.Stop.TheVariants.{Byte}
use Rattle.text.specs.Stop.{is_stop, feed, space}
use Rattle.text.specs.Parts.{pieces}
use Rattle.text.proofs.BytesLemmas.{all-append}
use Rattle.text.proofs.CutLemmas.{Lacks, pieces-append, pieces-all}
use Rattle.trace.specs.Text.{Word, Line, further, spaced, text}

-- States that a word has no space and no line end.
abbrev pub IsPlain : Word → Type 0
IsPlain [] = Unit {0}
IsPlain (c ∷ cs) = (32 < c) × IsPlain cs

-- A space or line end is not part of a word.
not_stop : (c sep : ℕ) → sep ≤ 32 → 32 < c → not (is_stop (Byte sep) c) ≡ true
not_stop c sep le lt = rw (ne_eqb c sep (λ e. let f = e in omega arith)) refl

plain_lacks : (sep : ℕ) → sep ≤ 32 → (w : List ℕ) → IsPlain w → Lacks (Byte sep) w
plain_lacks sep le [] p = refl
plain_lacks sep le (c ∷ w) p = and_from (not (is_stop (Byte sep) c)) _ (not_stop c sep le p.0) (plain_lacks sep le w p.1)

abbrev pub ArePlain : List Word → Type 0
ArePlain [] = Unit {0}
ArePlain (w ∷ ws) = IsPlain w × ArePlain ws

-- States that a line has at least one word, and that no word has a space or a line end.
abbrev pub IsLine : Line → Type 0
IsLine [] = ⊥
IsLine (w ∷ ws) = IsPlain w × ArePlain ws

abbrev pub AreLines : List Line → Type 0
AreLines [] = Unit {0}
AreLines (l ∷ ls) = IsLine l × AreLines ls

further_lacks : (ws : List Word) → ArePlain ws → Lacks feed (further ws)
further_lacks [] p = refl
further_lacks (w ∷ ws) p = all-append (λ c. not (is_stop feed c)) w (further ws) (plain_lacks 10 (omega arith) w p.0) (further_lacks ws p.1)

words-split : (w : Word) (ws : List Word) → IsPlain w → ArePlain ws → pieces space (w ++ further ws) ≡ w ∷ ws
words-split w [] p q = ap (pieces space) (append-nil w) ∙ pieces-all space w (plain_lacks 32 (omega arith) w p)
words-split w (v ∷ ws) p q = pieces-append space w 32 (v ++ further ws) (plain_lacks 32 (omega arith) w p) refl ∙ ap (λ r. w ∷ r) (words-split v ws q.0 q.1)

line-split : (l : Line) → IsLine l → pieces space (spaced l) ≡ l
line-split [] p = absurd p
line-split (w ∷ ws) p = words-split w ws p.0 p.1

line-lacks : (l : Line) → IsLine l → Lacks feed (spaced l)
line-lacks [] p = absurd p
line-lacks (w ∷ ws) p = all-append (λ c. not (is_stop feed c)) w (further ws) (plain_lacks 10 (omega arith) w p.0) (further_lacks ws p.1)

-- The lines of a text, and the empty one after the last line feed.
pub text-split : (ls : List Line) → AreLines ls → map (pieces space) (pieces feed (text ls)) ≡ ls ++ ([] ∷ []) ∷ []
text-split [] p = refl
text-split (l ∷ ls) p =
    ap (map (pieces space)) (pieces-append feed (spaced l) 10 (text ls) (line-lacks l p.0) refl)
    ∙ (λ i. line-split l p.0 i ∷ text-split ls p.1 i)

glyph_plain : (d : ℕ) → 32 < digit_glyph false d
glyph_plain d = by (nat_lt d 10)
  where
    by : (b : Bool) → 32 < cond b (48 + d) (cond false (55 + d) (87 + d))
    by true = omega arith
    by false = omega arith

onto_plain : (k n : ℕ) (acc : List ℕ) → IsPlain acc → IsPlain (digits_onto k 10 false n acc)
onto_plain zero n acc p = p
onto_plain (suc k) n acc p = by (n / 10 == 0) (onto_plain k (n / 10) (digit_glyph false (n % 10) ∷ acc) (glyph_plain (n % 10), p))
  where
    by : (b : Bool) → IsPlain (digits_onto k 10 false (n / 10) (digit_glyph false (n % 10) ∷ acc)) → IsPlain (cond b (digit_glyph false (n % 10) ∷ acc) (digits_onto k 10 false (n / 10) (digit_glyph false (n % 10) ∷ acc)))
    by true h = (glyph_plain (n % 10), p)
    by false h = h

pub decimal_plain : (n : ℕ) → IsPlain (decimal n)
unfolding digits
decimal_plain n = onto_plain 64 n [] tt
