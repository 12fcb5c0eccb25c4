-- Letters and rounds that send the same orders, compared one by one.
use Rattle.std.proofs.Common.{◌≡◌, ℕ, zero, suc, ◌+◌, ◌<◌, ◌≤◌, List, [], ◌∷◌, length, take, get_or, sym, ap, subst, ◌∙◌, arith}
use Rattle.std.proofs.lemmas.List.{take_all}
use Rattle.round.specs.Letters.{Letter}
use Rattle.campaign_orders.specs.Merging.{TellAlike, RoundsAlike}

tell_next : (i : ℕ) (a b : List Letter) (l m : Letter) → i < length a → i < length b → l ≡ get_or a i l → m ≡ get_or b i m → TellAlike (take i a) (take i b) → l.general ≡ m.general → l.outbox ≡ m.outbox →
    TellAlike (take (suc i) a) (take (suc i) b)
tell_next i [] b l m la lb x y h g o = absurd (omega arith)
tell_next i (p ∷ a) [] l m la lb x y h g o = absurd (omega arith)
tell_next zero (p ∷ a) (q ∷ b) l m la lb x y h g o =
    (ap (λ (k : Letter). k.general) (sym x) ∙ (g ∙ ap (λ (k : Letter). k.general) y), ap (λ (k : Letter). k.outbox) (sym x) ∙ (o ∙ ap (λ (k : Letter). k.outbox) y), tt)
tell_next (suc i) (p ∷ a) (q ∷ b) l m la lb x y h g o = (h.0, h.1, tell_next i a b l m (omega arith) (omega arith) x y h.2 g o)

pub tell_more : (i : ℕ) (a b : List Letter) (l m : Letter) → i < length a → i < length b → l ≡ get_or a i l → m ≡ get_or b i m → TellAlike (take i a) (take i b) → l.general ≡ m.general → l.outbox ≡ m.outbox →
    TellAlike (take (i + 1) a) (take (i + 1) b)
tell_more i a b l m la lb x y h g o = (let e : suc i ≡ i + 1 = omega arith in subst (λ (n : ℕ). TellAlike (take n a) (take n b)) e (tell_next i a b l m la lb x y h g o))

pub tell_all : (i : ℕ) (a b : List Letter) → length a ≤ i → length b ≤ i → TellAlike (take i a) (take i b) → TellAlike a b
tell_all i a b la lb h = subst (λ (l : List Letter). TellAlike l b) (take_all i a la) (subst (λ (l : List Letter). TellAlike (take i a) l) (take_all i b lb) h)

rounds_next : (i : ℕ) (a b : List (List Letter)) (l m : List Letter) → i < length a → i < length b → l ≡ get_or a i l → m ≡ get_or b i m → RoundsAlike (take i a) (take i b) → TellAlike l m → RoundsAlike (take (suc i) a) (take (suc i) b)
rounds_next i [] b l m la lb x y h g = absurd (omega arith)
rounds_next i (p ∷ a) [] l m la lb x y h g = absurd (omega arith)
rounds_next zero (p ∷ a) (q ∷ b) l m la lb x y h g = (subst (λ (k : List Letter). TellAlike k q) x (subst (λ (k : List Letter). TellAlike l k) y g), tt)
rounds_next (suc i) (p ∷ a) (q ∷ b) l m la lb x y h g = (h.0, rounds_next i a b l m (omega arith) (omega arith) x y h.1 g)

pub rounds_more : (i : ℕ) (a b : List (List Letter)) (l m : List Letter) → i < length a → i < length b → l ≡ get_or a i l → m ≡ get_or b i m → RoundsAlike (take i a) (take i b) → TellAlike l m → RoundsAlike (take (i + 1) a) (take (i + 1) b)
rounds_more i a b l m la lb x y h g = (let e : suc i ≡ i + 1 = omega arith in subst (λ (n : ℕ). RoundsAlike (take n a) (take n b)) e (rounds_next i a b l m la lb x y h g))

pub rounds_all : (i : ℕ) (a b : List (List Letter)) → length a ≤ i → length b ≤ i → RoundsAlike (take i a) (take i b) → RoundsAlike a b
rounds_all i a b la lb h = subst (λ (l : List (List Letter)). RoundsAlike l b) (take_all i a la) (subst (λ (l : List (List Letter)). RoundsAlike (take i a) l) (take_all i b lb) h)
