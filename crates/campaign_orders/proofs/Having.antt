-- Elements of lists.
use Rattle.std.proofs.Common.{◌≡◌, ℕ, ◌≤◌, List, [], ◌∷◌, ◌++◌, refl, ◌⊎◌, inl, inr, ⊎_elim, arith}
use Rattle.campaign_orders.specs.Listing.{Has, AreDifferent}
use Rattle.campaign_orders.specs.Walks.{IsAscending}

pub has-append_to : {A : Type 0} → (a b : List A) (x : A) → Has a x ⊎ Has b x → Has (a ++ b) x
has-append_to [] b x h = ⊎_elim (λ f. absurd f) (λ k. k) h
has-append_to (y ∷ a) b x h =
    ⊎_elim (λ k. ⊎_elim (λ e. inl e) (λ m. inr (has-append_to a b x (inl m))) k) (λ k. inr (has-append_to a b x (inr k))) h

pub has-append_of : {A : Type 0} → (a b : List A) (x : A) → Has (a ++ b) x → Has a x ⊎ Has b x
has-append_of [] b x h = inr h
has-append_of (y ∷ a) b x h =
    ⊎_elim (λ e. inl (inl e)) (λ k. ⊎_elim (λ m. inl (inr m)) (λ m. inr m) (has-append_of a b x k)) h

pub different-append : {A : Type 0} → (a b : List A) → AreDifferent a → AreDifferent b → ((x : A) → Has a x → Has b x → ⊥) → AreDifferent (a ++ b)
different-append [] b d e n = e
different-append (y ∷ a) b d e n =
    ((λ h. ⊎_elim (λ k. d.0 k) (λ k. n y (inl refl) k) (has-append_of a b y h)), different-append a b d.1 e (λ x h k. n x (inr h) k))

pub ascending-append : (xs ys : List ℕ) → IsAscending xs → IsAscending ys → ((x y : ℕ) → Has xs x → Has ys y → x ≤ y) → IsAscending (xs ++ ys)
ascending-append [] ys a b c = b
ascending-append (x ∷ xs) ys a b c =
    ((λ y h. ⊎_elim (λ k. a.0 y k) (λ k. c x y (inl refl) k) (has-append_of xs ys y h)), ascending-append xs ys a.1 b (λ u v h k. c u v (inr h) k))

pub ascending_one : (g : ℕ) (xs : List ℕ) → ((y : ℕ) → Has xs y → y ≡ g) → IsAscending xs
ascending_one g [] h = tt
ascending_one g (x ∷ xs) h = ((λ y k. (let e = h x (inl refl) in let f = h y (inr k) in omega arith)), ascending_one g xs (λ y k. h y (inr k)))
