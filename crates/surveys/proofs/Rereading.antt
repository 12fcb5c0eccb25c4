-- A line is read as the result that it was written from.
use Rattle.std.proofs.Common.{ℕ, ◌≡◌, ◌<◌, ◌^◌, Bool, true, false, List, [], ◌∷◌, drop, refl, sym, subst, ap, ◌∙◌, arith, codes, Option, None, Some}
use Rattle.std.specs.Prelude.{decimal, ◌==◌}
use Rattle.std.proofs.lemmas.Bool.Decides.{nat_tests}
use Rattle.std.proofs.lemmas.Bool.{lt-ltb}
use Rattle.text.specs.Stop.{comma}
use Rattle.text.specs.declared.stop.Stop.TheVariants.{Byte}
use Rattle.text.proofs.CutLemmas.{Lacks}
use Rattle.text.proofs.DecimalLemmas.{decimal_of-decimal}
use Rattle.surveys.specs.declared.finding.Finding.{Finding}
use Rattle.surveys.specs.Lines.{AreNumbers, AreWords, HasMember, answer_text, flag_text, line_text, member, number_told}
use Rattle.surveys.proofs.Cuts.{decimal_lacks_brace, decimal_lacks_comma, rest_of, word_of}
use Rattle.surveys.proofs.Words.{answer_told, flag_told, found_by, line_told, rest, word}

same_byte : (c : ℕ) → c == c ≡ true
same_byte c = grind (arith, nat_tests)

flag_lacks : (b : Bool) → Lacks comma (flag_text b)
flag_lacks true = refl
flag_lacks false = refl

answer_lacks : (a : Option Bool) → Lacks comma (answer_text a)
answer_lacks None = refl
answer_lacks (Some b) = flag_lacks b

-- Each word is parsed as the value that it was written from.
flag_again : (b : Bool) → flag_told (flag_text b) ≡ Some b
flag_again true = refl
flag_again false = refl

answer_again : (a : Option Bool) → answer_told (answer_text a) ≡ Some a
answer_again None = refl
answer_again (Some true) = refl
answer_again (Some false) = refl

number_again : (limit n : ℕ) → n < limit → n < 2 ^ 64 → number_told limit (decimal n) ≡ Some n
number_again limit n lt fits = rw (decimal_of-decimal n fits, lt-ltb n limit lt) refl

found_again : (f : Finding) → AreNumbers f → found_by (flag_text f.verdict.alike) (decimal f.bound) (decimal f.generals) (flag_text f.verdict.bound) (answer_text f.verdict.obeyed) (decimal f.seed) (decimal f.traitors) ≡ Some f
unfolding found_by
found_again f h =
    let seed = h.seed in
    let generals = h.generals in
    let bound = h.bound in
    let traitors = h.traitors in
    rw (
      flag_again f.verdict.alike,
      number_again 256 f.bound bound (omega arith),
      number_again 256 f.generals generals (omega arith),
      flag_again f.verdict.bound,
      answer_again f.verdict.obeyed,
      number_again (2 ^ 64) f.seed seed seed,
      number_again (2 ^ 64) f.traitors traitors traitors,
    ) refl

same_found : (a b c d e g h i j k l m n o : List ℕ) → a ≡ i → b ≡ j → c ≡ k → d ≡ l → e ≡ m → g ≡ n → h ≡ o → found_by a b c d e g h ≡ found_by i j k l m n o
same_found a b c d e g h i j k l m n o p q r s t u v = cc

-- The text of a campaign's line from each member on.
abbrev from_traitors : Finding → List ℕ
from_traitors f = member (codes ",\"traitors\"") (decimal f.traitors) (codes "}\n")

abbrev from_seed : Finding → List ℕ
from_seed f = member (codes ",\"seed\"") (decimal f.seed) (from_traitors f)

abbrev from_obeyed : Finding → List ℕ
from_obeyed f = member (codes ",\"obeyed\"") (answer_text f.verdict.obeyed) (from_seed f)

abbrev from_line : Finding → List ℕ
from_line f = member (codes ",\"line\"") (codes "\"campaign\"") (from_obeyed f)

abbrev from_kept : Finding → List ℕ
from_kept f = member (codes ",\"kept\"") (flag_text f.verdict.bound) (from_line f)

abbrev from_generals : Finding → List ℕ
from_generals f = member (codes ",\"generals\"") (decimal f.generals) (from_kept f)

abbrev from_bound : Finding → List ℕ
from_bound f = member (codes ",\"bound\"") (decimal f.bound) (from_generals f)

pub told_again : (f : Finding) → AreNumbers f → line_told (line_text f) ≡ Some f
unfolding line_told
told_again f h =
    let seed = h.seed in
    let traitors = h.traitors in
    let small : f.bound < 2 ^ 64 = (let b = h.bound in omega arith) in
    let few : f.generals < 2 ^ 64 = (let g = h.generals in omega arith) in
    let one : rest comma (line_text f) ≡ from_bound f = rest_of comma (codes "{\"alike\"") (flag_text f.verdict.alike) 44 _ refl (flag_lacks f.verdict.alike) refl in
    let two : rest comma (from_bound f) ≡ from_generals f = rest_of comma (codes ",\"bound\"") (decimal f.bound) 44 _ refl (decimal_lacks_comma f.bound small) refl in
    let three : rest comma (from_generals f) ≡ from_kept f = rest_of comma (codes ",\"generals\"") (decimal f.generals) 44 _ refl (decimal_lacks_comma f.generals few) refl in
    let four : rest comma (from_kept f) ≡ from_line f = rest_of comma (codes ",\"kept\"") (flag_text f.verdict.bound) 44 _ refl (flag_lacks f.verdict.bound) refl in
    let five : rest comma (from_line f) ≡ from_obeyed f = rest_of comma (codes ",\"line\"") (codes "\"campaign\"") 44 _ refl refl refl in
    let six : rest comma (from_obeyed f) ≡ from_seed f = rest_of comma (codes ",\"obeyed\"") (answer_text f.verdict.obeyed) 44 _ refl (answer_lacks f.verdict.obeyed) refl in
    let seven : rest comma (from_seed f) ≡ from_traitors f = rest_of comma (codes ",\"seed\"") (decimal f.seed) 44 _ refl (decimal_lacks_comma f.seed seed) refl in
    let behind = λ (x y z : List ℕ) (e : x ≡ y) (k : rest comma y ≡ z). ap (rest comma) e ∙ k in
    let b = one in
    let c = behind _ _ _ b two in
    let d = behind _ _ _ c three in
    let e = behind _ _ _ d four in
    let g = behind _ _ _ e five in
    let i = behind _ _ _ g six in
    let j = behind _ _ _ i seven in
    same_found _ _ _ _ _ _ _ _ _ _ _ _ _ _
    (word_of comma (codes "{\"alike\"") (flag_text f.verdict.alike) 44 _ refl (flag_lacks f.verdict.alike) refl)
    (ap (word comma) b ∙ word_of comma (codes ",\"bound\"") (decimal f.bound) 44 _ refl (decimal_lacks_comma f.bound small) refl)
    (ap (word comma) c ∙ word_of comma (codes ",\"generals\"") (decimal f.generals) 44 _ refl (decimal_lacks_comma f.generals few) refl)
    (ap (word comma) d ∙ word_of comma (codes ",\"kept\"") (flag_text f.verdict.bound) 44 _ refl (flag_lacks f.verdict.bound) refl)
    (ap (word comma) g ∙ word_of comma (codes ",\"obeyed\"") (answer_text f.verdict.obeyed) 44 _ refl (answer_lacks f.verdict.obeyed) refl)
    (ap (word comma) i ∙ word_of comma (codes ",\"seed\"") (decimal f.seed) 44 _ refl (decimal_lacks_comma f.seed seed) refl)
    (ap (word (Byte 125)) j ∙ word_of (Byte 125) (codes ",\"traitors\"") (decimal f.traitors) 125 _ refl (decimal_lacks_brace f.traitors traitors) refl)
    ∙ found_again f h

-- Results with the same line are equal.
pub same_findings : (f g : Finding) → AreNumbers f → AreNumbers g → line_text f ≡ line_text g → f ≡ g
same_findings f g h k e =
    let a = told_again f h in
    let b = told_again g k in
    let same : line_told (line_text f) ≡ line_told (line_text g) = ap line_told e in
    let z : Some f ≡ Some g = sym a ∙ (same ∙ b) in
    cc

-- The members of a campaign's line, one after the other.
pub number_says : (limit n : ℕ) (w : List ℕ) → n < limit → n < 2 ^ 64 → w ≡ decimal n → number_told limit w ≡ Some n
number_says limit n w lt fits e = ap (number_told limit) e ∙ number_again limit n lt fits

-- `w` and `r` are the word of the member with which a text begins, and the text after this word.
abbrev pub Cut : ℕ → List ℕ → List ℕ → List ℕ → Type 0
Cut ends bytes w r = ((v behind : List ℕ) → HasMember ends bytes v behind → w ≡ v) × ((v behind : List ℕ) → HasMember ends bytes v behind → r ≡ ends ∷ behind)

cut_on : (ends : ℕ) (bytes text w r v behind : List ℕ) → Cut ends bytes w r → bytes ≡ text → HasMember ends text v behind → (w ≡ v) × (r ≡ ends ∷ behind)
cut_on ends bytes text w r v behind cut e h = let k = subst (λ (x : List ℕ). HasMember ends x v behind) (sym e) h in (cut.0 v behind k, cut.1 v behind k)

pub words_of : (f : Finding) (bytes a b m c n d k e x g o i s j t l : List ℕ) → AreNumbers f → bytes ≡ line_text f → Cut 44 bytes a b → Cut 44 b m c → Cut 44 c n d → Cut 44 d k e → Cut 44 e x g → Cut 44 g o i → Cut 44 i s j → Cut 125 j t l
    → AreWords f a m n k o s t
words_of f bytes a b m c n d k e x g o i s j t l h is c1 c2 c3 c4 c5 c6 c7 c8 =
    let small : f.bound < 2 ^ 64 = (let q = h.bound in omega arith) in
    let few : f.generals < 2 ^ 64 = (let q = h.generals in omega arith) in
    let one = cut_on 44 bytes (line_text f) a b (flag_text f.verdict.alike) (drop 1 (from_bound f)) c1 is (record { front = codes "{\"alike\""; plain = refl; short = flag_lacks f.verdict.alike; whole = refl }) in
    let two = cut_on 44 b (from_bound f) m c (decimal f.bound) (drop 1 (from_generals f)) c2 one.1 (record { front = codes ",\"bound\""; plain = refl; short = decimal_lacks_comma f.bound small; whole = refl }) in
    let three = cut_on 44 c (from_generals f) n d (decimal f.generals) (drop 1 (from_kept f)) c3 two.1 (record { front = codes ",\"generals\""; plain = refl; short = decimal_lacks_comma f.generals few; whole = refl }) in
    let four = cut_on 44 d (from_kept f) k e (flag_text f.verdict.bound) (drop 1 (from_line f)) c4 three.1 (record { front = codes ",\"kept\""; plain = refl; short = flag_lacks f.verdict.bound; whole = refl }) in
    let five = cut_on 44 e (from_line f) x g (codes "\"campaign\"") (drop 1 (from_obeyed f)) c5 four.1 (record { front = codes ",\"line\""; plain = refl; short = refl; whole = refl }) in
    let six = cut_on 44 g (from_obeyed f) o i (answer_text f.verdict.obeyed) (drop 1 (from_seed f)) c6 five.1 (record { front = codes ",\"obeyed\""; plain = refl; short = answer_lacks f.verdict.obeyed; whole = refl }) in
    let seven = cut_on 44 i (from_seed f) s j (decimal f.seed) (drop 1 (from_traitors f)) c7 six.1 (record { front = codes ",\"seed\""; plain = refl; short = decimal_lacks_comma f.seed h.seed; whole = refl }) in
    let eight = cut_on 125 j (from_traitors f) t l (decimal f.traitors) (10 ∷ []) c8 seven.1 (record { front = codes ",\"traitors\""; plain = refl; short = decimal_lacks_brace f.traitors h.traitors; whole = refl }) in
    record { alike = one.0; bound = two.0; generals = three.0; kept = four.0; obeyed = six.0; seed = seven.0; traitors = eight.0 }

-- The word of the member with which a text begins, and the text after this word.
pub member_word : (ends : ℕ) (bytes w behind : List ℕ) → HasMember ends bytes w behind → word (Byte ends) bytes ≡ w
member_word ends bytes w behind h = ap (word (Byte ends)) h.whole ∙ word_of (Byte ends) h.front w ends behind h.plain h.short (same_byte ends)

pub member_rest : (ends : ℕ) (bytes w behind : List ℕ) → HasMember ends bytes w behind → rest (Byte ends) bytes ≡ ends ∷ behind
member_rest ends bytes w behind h = ap (rest (Byte ends)) h.whole ∙ rest_of (Byte ends) h.front w ends behind h.plain h.short (same_byte ends)

-- A result made of the parsed words is the one from which the words were written.
pub found_is : (f : Finding) (s n m t : ℕ) (a k : Bool) (o : Option Bool) → Some s ≡ Some f.seed → Some n ≡ Some f.generals → Some m ≡ Some f.bound → Some t ≡ Some f.traitors → Some a ≡ Some f.verdict.alike → Some k ≡ Some f.verdict.bound
    → Some o ≡ Some f.verdict.obeyed → Some (record { seed = s; generals = n; bound = m; traitors = t; verdict = record { alike = a; obeyed = o; bound = k } }) ≡ Some f
found_is f s n m t a k o e1 e2 e3 e4 e5 e6 e7 =
    let seed : s ≡ f.seed = cc in
    let generals : n ≡ f.generals = cc in
    let bound : m ≡ f.bound = cc in
    let traitors : t ≡ f.traitors = cc in
    let alike : a ≡ f.verdict.alike = cc in
    let kept : k ≡ f.verdict.bound = cc in
    let obeyed : o ≡ f.verdict.obeyed = cc in
    let same : record { seed = s; generals = n; bound = m; traitors = t; verdict = record { alike = a; obeyed = o; bound = k } } ≡ f =
    (λ i. record { seed = seed i; generals = generals i; bound = bound i; traitors = traitors i; verdict = record { alike = alike i; obeyed = obeyed i; bound = kept i } }) in
    ap Some same

-- The decimal text of a number below the limit is parsed.
pub number_is_said : {A : Type 0} (limit n : ℕ) (w : List ℕ) → None ≡ number_told limit w → n < limit → n < 2 ^ 64 → w ≡ decimal n → A
number_is_said limit n w none lt fits e = (let is = number_says limit n w lt fits e in absurd (let z : None ≡ Some n = none ∙ is in cc))
