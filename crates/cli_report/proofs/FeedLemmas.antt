-- Loops over the bytes of a TOML string on one line.
use Rattle.std.proofs.Common.{◌≡◌, ◌∙◌, ℕ, ◌+◌, ◌<◌, List, ◌∷◌, ◌++◌, [], false, true, ap, append_assoc, append-nil, drop, get_or, length, refl, take}
use Rattle.std.proofs.lemmas.List.{drop_more, take_more}
use Rattle.std.specs.Prelude.{nat_eq}
use Rattle.std.specs.List.{starts_with}
use Rattle.cli_report.specs.Scenarios.{before_feed, before_quote, behind_feed, is_feed}

no_feed : (x : ℕ) (xs : List ℕ) → is_feed (x ∷ xs) ≡ false → behind_feed (x ∷ xs) ≡ behind_feed xs
no_feed x xs none = rw none refl

pub behind_more : (text : List ℕ) (i : ℕ) → i < length text → is_feed (drop i text) ≡ false → behind_feed (drop i text) ≡ behind_feed (drop (i + 1) text)
behind_more text i lt none =
    let e : drop i text ≡ get_or text i 0 ∷ drop (i + 1) text = drop_more text i 0 lt in
    ap behind_feed e ∙ no_feed (get_or text i 0) (drop (i + 1) text) (rw e at none)

no_end : (quote : List ℕ) (x : ℕ) (xs : List ℕ) → is_feed (x ∷ xs) ≡ false → starts_with nat_eq (x ∷ xs) quote ≡ false → before_feed quote (x ∷ xs) ≡ x ∷ before_feed quote xs
no_end quote x xs none more = rw (none, more) refl

pub before_more : (quote text : List ℕ) (i : ℕ) → i < length text → is_feed (drop i text) ≡ false → starts_with nat_eq (drop i text) quote ≡ false
    → take i text ++ before_feed quote (drop i text) ≡ take (i + 1) text ++ before_feed quote (drop (i + 1) text)
before_more quote text i lt none more =
    let e : drop i text ≡ get_or text i 0 ∷ drop (i + 1) text = drop_more text i 0 lt in
    let h : before_feed quote (drop i text) ≡ get_or text i 0 ∷ before_feed quote (drop (i + 1) text) = ap (before_feed quote) e ∙ no_end quote (get_or text i 0) (drop (i + 1) text) (rw e at none) (rw e at more) in
    rw (h, take_more text i 0 lt) (simp append_assoc refl)

no_quote : (quote : List ℕ) (x : ℕ) (xs : List ℕ) → starts_with nat_eq (x ∷ xs) quote ≡ false → before_quote quote (x ∷ xs) ≡ x ∷ before_quote quote xs
no_quote quote x xs more = rw more refl

pub quote_more : (quote text : List ℕ) (i : ℕ) → i < length text → starts_with nat_eq (drop i text) quote ≡ false
    → take i text ++ before_quote quote (drop i text) ≡ take (i + 1) text ++ before_quote quote (drop (i + 1) text)
quote_more quote text i lt more =
    let e : drop i text ≡ get_or text i 0 ∷ drop (i + 1) text = drop_more text i 0 lt in
    let h : before_quote quote (drop i text) ≡ get_or text i 0 ∷ before_quote quote (drop (i + 1) text) = ap (before_quote quote) e ∙ no_quote quote (get_or text i 0) (drop (i + 1) text) (rw e at more) in
    rw (h, take_more text i 0 lt) (simp append_assoc refl)

at_quote : (quote : List ℕ) (x : ℕ) (xs : List ℕ) → starts_with nat_eq (x ∷ xs) quote ≡ true → before_quote quote (x ∷ xs) ≡ []
at_quote quote x xs here = rw here refl

pub quote_end : (quote text : List ℕ) (i : ℕ) → i < length text → starts_with nat_eq (drop i text) quote ≡ true → take i text ++ before_quote quote (drop i text) ≡ take i text
quote_end quote text i lt here =
    let e : drop i text ≡ get_or text i 0 ∷ drop (i + 1) text = drop_more text i 0 lt in
    let h : before_quote quote (drop i text) ≡ [] = ap (before_quote quote) e ∙ at_quote quote (get_or text i 0) (drop (i + 1) text) (rw e at here) in
    rw h (append-nil (take i text))
