-- The search through several numbers of traitors.
use Rattle.std.proofs.Common.{ℕ, ◌+◌, ◌<◌, ◌≤◌, ◌≡◌, Bool, true, false, cond, refl, subst, arith, Option, None, Some, ◌⊎◌, ⊎_elim}
use Rattle.std.specs.Prelude.{IfNone, IfSome}
use Rattle.std.proofs.lemmas.Bool.{cases_lt}
use Rattle.surveys.specs.Plot.{Plot}
use Rattle.surveys.specs.Plotting.{plot_of}
use Rattle.surveys.specs.Family.{Family}
use Rattle.surveys.specs.declared.breach.Breach.{Breach}
use Rattle.surveys.specs.declared.breach.Breaking.{Breaking}
use Rattle.surveys.specs.declared.span.CountRange.{CountRange}
use Rattle.surveys.specs.Breaches.{AreGreater, AreNotLess, IsBreaking, IsLeastBreach, NoneBreaks, is_before, least_so_far, narrowed}
use Rattle.surveys.proofs.BreachesFound.{first_or_later, none_broken}
use Rattle.surveys.proofs.Ranks.{before_both, before_not_less}

-- This is the least result with the numbers of traitors from `low` to `count` - 1.
pub record IsLeastUpTo (plots : ℕ → ℕ → Plot) (low high count first end : ℕ) (b : Breaking) : Type 0 where
  pub within : low ≤ b.traitors
  pub inside : b.traitors ≤ high
  pub before : b.traitors < count
  pub least : IsLeastBreach (plots b.traitors) first end (Some b.breach)
  pub fewer : (t : ℕ) → low ≤ t → t < b.traitors → AreGreater (plots t) first end b.breach
  pub more : (t : ℕ) → b.traitors < t → t < count → AreNotLess (plots t) first end b.breach

-- This is the result of the search with the numbers of traitors from `low` to `count` - 1.
abbrev pub IsSoFar : (ℕ → ℕ → Plot) → ℕ → ℕ → ℕ → ℕ → ℕ → Option Breaking → Type 0
IsSoFar plots low high count first end None = (t : ℕ) → low ≤ t → t < count → IsLeastBreach (plots t) first end None
IsSoFar plots low high count first end (Some b) = IsLeastUpTo plots low high count first end b

-- A number less than `n` + 1 is less than `n` or equal to it.
one_more : (P : ℕ → Type 0) (t n : ℕ) → t < n + 1 → (t < n → P t) → P n → P t
one_more P t n lt less here = ⊎_elim less (λ le. (let same : n ≡ t = omega (arith, lt, le) in subst P same here)) (cases_lt t n)

-- If no campaign with `n` traitors is broken, the result stays the same.
nothing_more : (plots : ℕ → ℕ → Plot) (low high n first end : ℕ) (o : Option Breaking) → IsSoFar plots low high n first end o → IsLeastBreach (plots n) first end None → IsSoFar plots low high (n + 1) first end o
nothing_more plots low high n first end None h none = λ t from lt. one_more (λ k. IsLeastBreach (plots k) first end None) t n lt (λ l. h t from l) none
nothing_more plots low high n first end (Some b) h none =
    let before = h.before in
    record {
      within = h.within;
      inside = h.inside;
      before = omega (arith, before);
      least = h.least;
      fewer = h.fewer;
      more = λ t from lt. one_more (λ k. AreNotLess (plots k) first end b.breach) t n lt (λ l. h.more t from l) (None, none, tt);
    }

-- A campaign that is less than a lower bound of others is a lower bound, too.
beyond : (b c : Breach) (found : Option Breach) → IfSome found (λ d. is_before c d ≡ true) → is_before b c ≡ true → IfSome found (λ d. is_before b d ≡ true)
beyond b c None h l = tt
beyond b c (Some d) h l = before_both b c d l h

not_within : (b c : Breach) (found : Option Breach) → IfSome found (λ d. is_before d c ≡ false) → is_before b c ≡ true → IfSome found (λ d. is_before b d ≡ true)
not_within b c None h l = tt
not_within b c (Some d) h l = before_not_less b c d l h

-- If a campaign is less than the result, it is less than all campaigns of the search before.
all_greater : (plots : ℕ → ℕ → Plot) (low high n first end : ℕ) (a : Breaking) (b : Breach) → IsLeastUpTo plots low high n first end a → is_before b a.breach ≡ true → (t : ℕ) → low ≤ t → t < n → AreGreater (plots t) first end b
all_greater plots low high n first end a b h l t from lt = ⊎_elim less (λ le. ⊎_elim same later (first_or_later a.traitors t le)) (cases_lt t a.traitors)
  where
    less : t < a.traitors → AreGreater (plots t) first end b
    less few = let g = h.fewer t from few in (g.0, g.1, beyond b a.breach g.0 g.2 l)

    same : a.traitors ≡ t → AreGreater (plots t) first end b
    same is = (Some a.breach, subst (λ k. IsLeastBreach (plots k) first end (Some a.breach)) is h.least, l)

    later : a.traitors < t → AreGreater (plots t) first end b
    later many = let g = h.more t many lt in (g.0, g.1, not_within b a.breach g.0 g.2 l)

-- A campaign that is less than all before it is the new result.
new_least : (plots : ℕ → ℕ → Plot) (low high n first end : ℕ) (b : Breach) → low ≤ n → n ≤ high → IsLeastBreach (plots n) first end (Some b) → ((t : ℕ) → low ≤ t → t < n → AreGreater (plots t) first end b)
    → IsLeastUpTo plots low high (n + 1) first end (record { traitors = n; breach = b })
new_least plots low high n first end b from to least all =
    record {
      within = from;
      inside = to;
      before = omega arith;
      least = least;
      fewer = all;
      more = λ t gt lt. absurd (omega (arith, gt, lt));
    }

something_more : (plots : ℕ → ℕ → Plot) (low high n first end : ℕ) (a : Breaking) (b : Breach) → low ≤ n → n ≤ high → IsLeastUpTo plots low high n first end a → IsLeastBreach (plots n) first end (Some b)
    → IsSoFar plots low high (n + 1) first end (least_so_far n (Some b) (Some a))
something_more plots low high n first end a b from to h least = go (is_before b a.breach) refl
  where
    go : (t : Bool) → is_before b a.breach ≡ t → IsSoFar plots low high (n + 1) first end (cond t (Some (record { traitors = n; breach = b })) (Some a))
    go true e = new_least plots low high n first end b from to least (all_greater plots low high n first end a b h e)
    go false e =
        let before = h.before in
        record {
          within = h.within;
          inside = h.inside;
          before = omega (arith, before);
          least = h.least;
          fewer = h.fewer;
          more = λ t gt lt. one_more (λ k. AreNotLess (plots k) first end a.breach) t n lt (λ l. h.more t gt l) (Some b, least, e);
        }

-- The search goes on with one more traitor.
pub further : (plots : ℕ → ℕ → Plot) (low high n first end : ℕ) (o : Option Breaking) (found : Option Breach) → low ≤ n → n ≤ high → IsSoFar plots low high n first end o → IsLeastBreach (plots n) first end found
    → IsSoFar plots low high (n + 1) first end (least_so_far n found o)
further plots low high n first end o None from to h least = nothing_more plots low high n first end o h least
further plots low high n first end None (Some b) from to h least = new_least plots low high n first end b from to least (λ t low_t lt. (None, h t low_t lt, tt))
further plots low high n first end (Some a) (Some b) from to h least = something_more plots low high n first end a b from to h least

-- Each lower number of traitors was searched without an error.
pub searched_before : (plots : ℕ → ℕ → Plot) (low high n first end : ℕ) (o : Option Breaking) → IsSoFar plots low high n first end o → (t : ℕ) → low ≤ t → t < n → (found : Option Breach) × IsLeastBreach (plots t) first end found
searched_before plots low high n first end None h t from lt = (None, h t from lt)
searched_before plots low high n first end (Some b) h t from lt = ⊎_elim less (λ le. ⊎_elim same later (first_or_later b.traitors t le)) (cases_lt t b.traitors)
  where
    less : t < b.traitors → (found : Option Breach) × IsLeastBreach (plots t) first end found
    less few = let g = h.fewer t from few in (g.0, g.1)

    same : b.traitors ≡ t → (found : Option Breach) × IsLeastBreach (plots t) first end found
    same is = (Some b.breach, subst (λ k. IsLeastBreach (plots k) first end (Some b.breach)) is h.least)

    later : b.traitors < t → (found : Option Breach) × IsLeastBreach (plots t) first end found
    later many = let g = h.more t many lt in (g.0, g.1)

-- After all numbers of the range, this is the result of the whole search.
pub some_is : (f : Family) (n m : ℕ) (span : CountRange) (count first end : ℕ) (o : Option Breaking) → span.high < count → IsSoFar (λ t. plot_of (narrowed f n m t)) span.low span.high count first end o → IfSome o (IsBreaking f n m span first end)
some_is f n m span count first end None all h = tt
some_is f n m span count first end (Some b) all h =
    record { within = h.within; inside = h.inside; least = h.least; fewer = h.fewer; more = λ t gt le. h.more t gt (omega (arith, le, all)) }

pub none_is : (f : Family) (n m : ℕ) (span : CountRange) (count first end : ℕ) (o : Option Breaking) → span.high < count → IsSoFar (λ t. plot_of (narrowed f n m t)) span.low span.high count first end o → IfNone o (NoneBreaks f n m span first end)
none_is f n m span count first end None all h = λ t from le. none_broken (plot_of (narrowed f n m t)) first end (h t from (omega (arith, le, all)))
none_is f n m span count first end (Some b) all h = tt
