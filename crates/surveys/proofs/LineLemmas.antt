-- Texts that are put together piece by piece.
use Rattle.std.proofs.Common.{ℕ, ◌≡◌, List, [], ◌++◌, ap, ◌∙◌, append_assoc, codes}
use Rattle.surveys.specs.declared.finding.Finding.{Finding}
use Rattle.std.specs.Prelude.{Bool, decimal}
use Rattle.surveys.specs.declared.span.CountRange.{CountRange}
use Rattle.surveys.specs.Family.{Family}
use Rattle.surveys.specs.Heads.{adversary_word, commander_text, head_end, head_front, head_middle, head_text, line_word, manner_word, orders_text, patience_word}
use Rattle.surveys.specs.Account.{Account}
use Rattle.surveys.specs.Accounting.{account_back, account_front, account_middle, account_text, list_text}
use Rattle.surveys.specs.Lines.{answer_text, back_text, flag_text, front_text, line_text}

-- A text, a name and the text after it, joined in either order.
pub named : (s t n a : List ℕ) → t ≡ (s ++ n) ++ a → t ≡ s ++ (n ++ a)
named s t n a e = e ∙ append_assoc s n a

pub two_pieces : (s t u a b : List ℕ) → t ≡ s ++ a → u ≡ t ++ b → u ≡ s ++ (a ++ b)
two_pieces s t u a b e f = f ∙ (ap (λ x. x ++ b) e ∙ append_assoc s a b)

pub three_pieces : (s t u v a b c : List ℕ) → t ≡ s ++ a → u ≡ t ++ b → v ≡ u ++ c → v ≡ s ++ (a ++ (b ++ c))
three_pieces s t u v a b c e f g = two_pieces s u v (a ++ b) c (two_pieces s t u a b e f) g ∙ ap (λ x. s ++ x) (append_assoc a b c)

pub four_pieces : (s t u v w a b c d : List ℕ) → t ≡ s ++ a → u ≡ t ++ b → v ≡ u ++ c → w ≡ v ++ d → w ≡ s ++ (a ++ (b ++ (c ++ d)))
four_pieces s t u v w a b c d e f g h = three_pieces s u v w (a ++ b) c d (two_pieces s t u a b e f) g h ∙ ap (λ x. s ++ x) (append_assoc a b (c ++ d))

pub five_pieces : (s t u v w x a b c d k : List ℕ) → t ≡ s ++ a → u ≡ t ++ b → v ≡ u ++ c → w ≡ v ++ d → x ≡ w ++ k → x ≡ s ++ (a ++ (b ++ (c ++ (d ++ k))))
five_pieces s t u v w x a b c d k e f g h i = four_pieces s u v w x (a ++ b) c d k (two_pieces s t u a b e f) g h i ∙ ap (λ y. s ++ y) (append_assoc a b (c ++ (d ++ k)))

-- The two halves of a campaign's line, joined.
pub joined_halves : (old : List ℕ) (f : Finding) → (old ++ front_text f) ++ back_text f ≡ old ++ line_text f
joined_halves old f = simp append_assoc

-- The parts of an account's line, joined.
flat_account : (o a1 x1 a2 x2 a3 x3 b1 y1 b2 y2 b3 y3 c1 z1 c2 z2 c3 z3 c4 : List ℕ)
    → ((o ++ (a1 ++ (x1 ++ (a2 ++ (x2 ++ (a3 ++ x3)))))) ++ (b1 ++ (y1 ++ (b2 ++ (y2 ++ (b3 ++ y3)))))) ++ (c1 ++ (z1 ++ (c2 ++ (z2 ++ (c3 ++ (z3 ++ c4))))))
    ≡ o ++ (a1 ++ (x1 ++ (a2 ++ (x2 ++ (a3 ++ (x3 ++ (b1 ++ (y1 ++ (b2 ++ (y2 ++ (b3 ++ (y3 ++ (c1 ++ (z1 ++ (c2 ++ (z2 ++ (c3 ++ (z3 ++ c4))))))))))))))))))
flat_account o a1 x1 a2 x2 a3 x3 b1 y1 b2 y2 b3 y3 c1 z1 c2 z2 c3 z3 c4 = simp append_assoc

pub joined_account : (old : List ℕ) (a : Account) → ((old ++ account_front a) ++ account_middle a) ++ account_back a ≡ old ++ account_text a
joined_account old a =
    flat_account old (codes "{\"alike\":") (flag_text a.finding.verdict.alike) (codes ",\"bound\":") (decimal a.finding.bound) (codes ",\"decisions\":") (list_text a.decisions) (codes ",\"generals\":") (decimal a.finding.generals) (codes ",\"kept\":")
    (flag_text a.finding.verdict.bound) (codes ",\"line\":\"account\",\"obeyed\":") (answer_text a.finding.verdict.obeyed) (codes ",\"order\":") (decimal a.order) (codes ",\"seed\":") (decimal a.finding.seed) (codes ",\"traitors\":") (list_text a.traitors) (codes "}\n")

-- The parts of a head, joined.
flat : (p w f1 x1 f2 x2 k f3 x3 f4 x4 m0 y0 m1 y1 r m2 y2 e1 z1 e2 z2 e3 : List ℕ)
    → (((p ++ w) ++ (f1 ++ (x1 ++ (f2 ++ (x2 ++ (k ++ (f3 ++ (x3 ++ (f4 ++ x4))))))))) ++ (m0 ++ (y0 ++ (m1 ++ (y1 ++ (r ++ (m2 ++ y2))))))) ++ (e1 ++ (z1 ++ (e2 ++ (z2 ++ e3))))
    ≡ p ++ (w ++ (f1 ++ (x1 ++ (f2 ++ (x2 ++ (k ++ (f3 ++ (x3 ++ (f4 ++ (x4 ++ (m0 ++ (y0 ++ (m1 ++ (y1 ++ (r ++ (m2 ++ (y2 ++ (e1 ++ (z1 ++ (e2 ++ (z2 ++ e3)))))))))))))))))))))
flat p w f1 x1 f2 x2 k f3 x3 f4 x4 m0 y0 m1 y1 r m2 y2 e1 z1 e2 z2 e3 = simp append_assoc

joined_head : (f : Family) → (((codes "{\"adversary\":" ++ adversary_word f.adversary) ++ head_front f.bound f.commander f.generals) ++ head_middle f.grid (manner_word f.manner) f.orders (patience_word f.patience)) ++ head_end f.traitors ≡ head_text f
joined_head f =
    flat (codes "{\"adversary\":") (adversary_word f.adversary) (codes ",\"bound_high\":") (decimal f.bound.high) (codes ",\"bound_low\":") (decimal f.bound.low) (commander_text f.commander) (codes ",\"generals_high\":") (decimal f.generals.high)
    (codes ",\"generals_low\":") (decimal f.generals.low) (codes ",\"line\":") (line_word f.grid) (codes ",\"manner\":") (manner_word f.manner) (orders_text f.orders) (codes ",\"patience\":") (patience_word f.patience)
    (codes ",\"traitors_high\":") (decimal f.traitors.high) (codes ",\"traitors_low\":") (decimal f.traitors.low) (codes "}\n")

pub whole_head : (f : Family) (o a b c d adversary manner patience : List ℕ) (bound generals traitors : CountRange) (commander orders : ℕ) (grid : Bool) → o ≡ [] → adversary ≡ adversary_word f.adversary → manner ≡ manner_word f.manner → patience ≡ patience_word f.patience
    → bound ≡ f.bound → generals ≡ f.generals → traitors ≡ f.traitors → commander ≡ f.commander → orders ≡ f.orders → grid ≡ f.grid → a ≡ (o ++ codes "{\"adversary\":") ++ adversary → b ≡ a ++ head_front bound commander generals → c ≡ b ++ head_middle grid manner orders patience → d ≡ c ++ head_end traitors → d ≡ head_text f
whole_head f o a b c d adversary manner patience bound generals traitors commander orders grid none ad ma pa bo ge tr co os gr e1 e2 e3 e4 =
    let one : a ≡ codes "{\"adversary\":" ++ adversary = e1 ∙ ap (λ (l : List ℕ). (l ++ codes "{\"adversary\":") ++ adversary) none in
    let two = e2 ∙ ap (λ (l : List ℕ). l ++ head_front bound commander generals) one in
    let three = e3 ∙ ap (λ (l : List ℕ). l ++ head_middle grid manner orders patience) two in
    let four = e4 ∙ ap (λ (l : List ℕ). l ++ head_end traitors) three in
    four ∙ ((λ i. (((codes "{\"adversary\":" ++ ad i) ++ head_front (bo i) (co i) (ge i)) ++ head_middle (gr i) (ma i) (os i) (pa i)) ++ head_end (tr i)) ∙ joined_head f)
