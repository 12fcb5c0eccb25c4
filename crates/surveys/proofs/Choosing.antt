-- How the traitors are chosen.
use Rattle.std.proofs.Common.{ℕ, suc, ◌+◌, ◌-◌, ◌%◌, ◌<◌, ◌≡◌, true, false, List, [], ◌∷◌, ◌++◌, map, refl, sym, ap, ◌∙◌, arith, append_assoc}
use Rattle.std.specs.Prelude.{nat_lt}
use Rattle.surveys.specs.Draws.{draw}
use Rattle.surveys.specs.Plotting.{chosen}

chosen_first : (seed g left more needed : ℕ) → left ≡ suc more → nat_lt (draw seed (4 + g) % left) needed ≡ true → chosen seed g left needed ≡ g ∷ chosen seed (g + 1) more (needed - 1)
chosen_first seed g left more needed e h = rw e (let k = rw e at h in rw k refl)

chosen_later : (seed g left more needed : ℕ) → left ≡ suc more → nat_lt (draw seed (4 + g) % left) needed ≡ false → chosen seed g left needed ≡ chosen seed (g + 1) more needed
chosen_later seed g left more needed e h = rw e (let k = rw e at h in rw k refl)

-- If the first of the remaining generals is chosen, one general fewer is needed from the others. Otherwise as many are
-- needed as before.
pub chosen_yes : (seed g n needed : ℕ) → g < n → nat_lt (draw seed (4 + g) % (n - g)) needed ≡ true → chosen seed g (n - g) needed ≡ g ∷ chosen seed (g + 1) (n - (g + 1)) (needed - 1)
chosen_yes seed g n needed lt h = chosen_first seed g (n - g) (n - (g + 1)) needed (omega arith) h

pub chosen_no : (seed g n needed : ℕ) → g < n → nat_lt (draw seed (4 + g) % (n - g)) needed ≡ false → chosen seed g (n - g) needed ≡ chosen seed (g + 1) (n - (g + 1)) needed
chosen_no seed g n needed lt h = chosen_later seed g (n - g) (n - (g + 1)) needed (omega arith) h

-- The list made from the chosen generals continues with the first of the remaining ones if he is chosen, and otherwise
-- without him.
pub chosen_on : {A : Type 0} (F : ℕ → A) (seed g n needed : ℕ) (xs : List A) → g < n → true ≡ nat_lt (draw seed (4 + g) % (n - g)) needed
    → (xs ++ F g ∷ []) ++ map F (chosen seed (g + 1) (n - (g + 1)) (needed - 1)) ≡ xs ++ map F (chosen seed g (n - g) needed)
chosen_on F seed g n needed xs lt h =
    append_assoc xs (F g ∷ []) (map F (chosen seed (g + 1) (n - (g + 1)) (needed - 1))) ∙ ap (λ ys. xs ++ map F ys) (sym (chosen_yes seed g n needed lt (sym h)))

pub passed_on : {A : Type 0} (F : ℕ → A) (seed g n needed : ℕ) (xs : List A) → g < n → false ≡ nat_lt (draw seed (4 + g) % (n - g)) needed
    → xs ++ map F (chosen seed (g + 1) (n - (g + 1)) needed) ≡ xs ++ map F (chosen seed g (n - g) needed)
passed_on F seed g n needed xs lt h = ap (λ ys. xs ++ map F ys) (sym (chosen_no seed g n needed lt (sym h)))
