-- A printed mnemonic with its operands is read again.
use Rattle.std.proofs.Common.{◌≡◌, ℕ, ◌<◌, true, false, List, [], ◌∷◌, ◌++◌, Some, length, drop, refl, sym, ap, ◌∙◌, arith, append_assoc, append-nil}
use Rattle.std.specs.Prelude.{not, ◌==◌, ◌&&◌, nat_lt}
use Rattle.std.specs.List.{list_all}
use Rattle.std.proofs.lemmas.Bool.Decides.{nat_tests}
use Rattle.std.proofs.lemmas.Bool.{and_from, and_parts}
use Rattle.text.specs.declared.stop.Stop.{Stop}
use Rattle.text.specs.declared.stop.Stop.TheVariants.{Blank, Solid}
use Rattle.text.specs.Options.{◌>>=◌}
use Rattle.text.specs.Stop.{is_stop, comma}
use Rattle.text.specs.Parts.{until, before, from, pieces}
use Rattle.text.proofs.BytesLemmas.{all-weaker}
use Rattle.text.proofs.CutLemmas.{Lacks, before-all, from-all, before-append, from-append, pieces-all, pieces-append}
use Rattle.asm.specs.Line.{is_token, is_word, is_all_blank, one_word, token_of, tokens_on, line_words}
use Rattle.asm.specs.Printing.{more_text, operands_text}
use Rattle.asm.proofs.TokenLemmas.{is_plain, IsPlain, ArePlain}

plain_comma : (c : ℕ) → is_plain c ≡ true → not (is_stop comma c) ≡ true
plain_comma c h = grind (arith, nat_tests)

pub plain_blank : (c : ℕ) → is_plain c ≡ true → not (is_stop Blank c) ≡ true
plain_blank c h = grind (arith, nat_tests)

plain_solid : (c : ℕ) → is_plain c ≡ true → is_stop Solid c ≡ true
plain_solid c h = grind (arith, nat_tests)

plain_token : (c : ℕ) → is_plain c ≡ true → nat_lt c 128 && not (c == 13) ≡ true
plain_token c h = grind (arith, nat_tests)

-- A text that begins with a plain byte is not blank.
until_first : (stop : Stop) (c : ℕ) (cs : List ℕ) → is_stop stop c ≡ true → until stop (c ∷ cs) ≡ 0
until_first stop c cs h = rw h refl

pub until_solid : (xs ys : List ℕ) → 0 < length xs → list_all is_plain xs ≡ true → until Solid (xs ++ ys) ≡ 0
until_solid [] ys some h = absurd (omega (arith, some))
until_solid (x ∷ xs) ys some h = until_first Solid x (xs ++ ys) (plain_solid x (and_parts (is_plain x) _ h).0)

pub some_append : (xs ys : List ℕ) → 0 < length xs → 0 < length (xs ++ ys)
some_append [] ys some = absurd (omega (arith, some))
some_append (x ∷ xs) ys some = omega arith

not_empty : (xs : List ℕ) → 0 < length xs → (length xs == 0) ≡ false
not_empty xs some = grind (arith, nat_tests)

not_blank : (xs : List ℕ) → until Solid xs ≡ 0 → 0 < length xs → is_all_blank (32 ∷ xs) ≡ false
not_blank xs e some = rw e (not_empty xs some)

-- Words without spaces.
is_token-plain : (xs : List ℕ) → list_all is_plain xs ≡ true → is_token xs ≡ true
is_token-plain [] h = refl
is_token-plain (x ∷ xs) h = and_from (nat_lt x 128 && not (x == 13)) (is_token xs) (plain_token x (and_parts (is_plain x) _ h).0) (is_token-plain xs (and_parts (is_plain x) _ h).1)

lacks_blank : (xs : List ℕ) → list_all is_plain xs ≡ true → Lacks Blank xs
lacks_blank xs h = all-weaker is_plain (λ c. not (is_stop Blank c)) plain_blank xs h

one_word-plain : (a : List ℕ) → IsPlain a → one_word a ≡ Some a
one_word-plain a p = rw (before-all Blank a (lacks_blank a p.bytes), from-all Blank a (lacks_blank a p.bytes), not_empty a p.some, is_token-plain a p.bytes) refl

token_of-spaced : (a : List ℕ) → IsPlain a → token_of (32 ∷ a) ≡ Some a
token_of-spaced a p =
    let e : until Solid a ≡ 0 = rw append-nil at (until_solid a [] p.some p.bytes) in
    ap (λ n. one_word (drop n a)) e ∙ one_word-plain a p

-- Each with a space before it.
abbrev pub spaced : List (List ℕ) → List (List ℕ)
spaced [] = []
spaced (t ∷ ts) = (32 ∷ t) ∷ spaced ts

tokens_on-spaced : (done ts : List (List ℕ)) → ArePlain ts → tokens_on done (spaced ts) ≡ Some (done ++ ts)
tokens_on-spaced done [] p = ap Some (sym (append-nil done))
tokens_on-spaced done (t ∷ ts) p =
    ap (λ o. o >>= λ token. tokens_on (done ++ token ∷ []) (spaced ts)) (token_of-spaced t p.0) ∙ (tokens_on-spaced (done ++ t ∷ []) ts p.1 ∙ ap Some (append_assoc done (t ∷ []) ts))

lacks_comma : (a : List ℕ) → IsPlain a → Lacks comma (32 ∷ a)
lacks_comma a p = all-weaker is_plain (λ c. not (is_stop comma c)) plain_comma a p.bytes

pieces-tokens : (a : List ℕ) (rest : List (List ℕ)) → IsPlain a → ArePlain rest → pieces comma (32 ∷ (a ++ more_text rest)) ≡ spaced (a ∷ rest)
pieces-tokens a [] p ps = ap (λ l. pieces comma (32 ∷ l)) (append-nil a) ∙ pieces-all comma (32 ∷ a) (lacks_comma a p)
pieces-tokens a (b ∷ rest) p ps = pieces-append comma (32 ∷ a) 44 (32 ∷ (b ++ more_text rest)) (lacks_comma a p) refl ∙ ap (λ l. (32 ∷ a) ∷ l) (pieces-tokens b rest ps.0 ps.1)

-- A mnemonic without operands, or with operands after it.
line_words-alone : (body w : List ℕ) → 0 < length body → before Blank body ≡ w → from Blank body ≡ [] → is_word w ≡ true → line_words body ≡ Some (w ∷ [])
unfolding line_words
line_words-alone body w some b f word = rw (not_empty body some, b, f, word) refl

line_words-parts : (body w back : List ℕ) (ts : List (List ℕ)) → 0 < length body → before Blank body ≡ w → from Blank body ≡ back → is_word w ≡ true → is_all_blank back ≡ false
    → tokens_on (w ∷ []) (pieces comma back) ≡ Some (w ∷ ts) → line_words body ≡ Some (w ∷ ts)
unfolding line_words
line_words-parts body w back ts some b f word blank h = rw (not_empty body some, b, f, word, blank) h

pub line_words-text : (w : List ℕ) (ts : List (List ℕ)) → is_word w ≡ true → IsPlain w → ArePlain ts → line_words (w ++ operands_text ts) ≡ Some (w ∷ ts)
line_words-text w [] word p ps = ap line_words (append-nil w) ∙ line_words-alone w w p.some (before-all Blank w (lacks_blank w p.bytes)) (from-all Blank w (lacks_blank w p.bytes)) word
line_words-text w (a ∷ rest) word p ps =
    let back : List ℕ = a ++ more_text rest in
    line_words-parts (w ++ 32 ∷ back) w (32 ∷ back) (a ∷ rest) (some_append w (32 ∷ back) p.some)
    (before-append Blank w 32 back (lacks_blank w p.bytes) refl) (from-append Blank w 32 back (lacks_blank w p.bytes) refl) word
    (not_blank back (until_solid a (more_text rest) ps.0.some ps.0.bytes) (some_append a (more_text rest) ps.0.some))
    (ap (tokens_on (w ∷ [])) (pieces-tokens a rest ps.0 ps.1) ∙ tokens_on-spaced (w ∷ []) (a ∷ rest) ps)
