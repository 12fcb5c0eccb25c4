-- The least of the broken campaigns of many seeds, after their reduction (own).
use Rattle.std.specs.Prelude.{ℕ, ◌≡◌, ◌≢◌, ◌<◌, ◌≤◌, ◌==◌, nat_lt, Bool, false, true, cond, ◌&&◌, ◌||◌, List, ◌∷◌, ◌++◌, map, length, sum_by, Option, None, Some, Result, Ok, Err, IfOk, IfErr, IfSome, MatchOption}
use Rattle.std.specs.List.{All, AllZip, Contains}
use Rattle.rayon.specs.Numbers.{nat_range}
use Rattle.scenario.specs.declared.fault.ScenarioError.{ScenarioError}
use Rattle.scenario.specs.declared.fault.ScenarioError.TheVariants.{Memory}
use Rattle.surveys.specs.declared.span.CountRange.{CountRange}
use Rattle.surveys.specs.Family.{Family}
use Rattle.surveys.specs.Plot.{Plot, Traitor}
use Rattle.surveys.specs.Plotting.{do_count, given_in, lies_by, plot_of}
use Rattle.surveys.specs.declared.adversary.Adversary.{Adversary}
use Rattle.surveys.specs.declared.manner.Manner.{Manner}
use Rattle.surveys.specs.declared.breach.Breach.{Breach}
use Rattle.surveys.specs.declared.breach.Breaking.{Breaking}
use Rattle.surveys.specs.Shrinking.{ComesWell, IsBroken, IsLeast, IsPartOf, IsRefusedOf, ShrinksTo}

-- Returns how many statements a campaign's traitors have in all.
abbrev pub statements : Plot → ℕ
statements p = sum_by (λ (t : Traitor). length t.lies) p.traitors

-- Checks whether the triple (a, b, c) is lexicographically less than (d, e, f).
abbrev pub is_below : ℕ → ℕ → ℕ → ℕ → ℕ → ℕ → Bool
is_below a b c d e f = nat_lt a d || (a == d && (nat_lt b e || (b == e && nat_lt c f)))

-- Checks whether the campaign `a` is less than `b`. This compares the numbers of traitors, if these are equal the
-- numbers of statements, and if these are equal, too, the seeds.
abbrev pub is_before : Breach → Breach → Bool
is_before a b =
    is_below (length a.plot.traitors) (statements a.plot) a.seed (length b.plot.traitors) (statements b.plot) b.seed

-- States that `p`, the campaign of the seed `by`, is broken, and that `b` has this seed and the campaign that the
-- reduction of `p` leaves.
pub record IsBreachOf (p : Plot) (by : ℕ) (b : Breach) : Type 0 where
  pub seed : b.seed ≡ by
  pub whole : IsBroken p
  pub least : IsLeast b.plot
  pub part : IsPartOf p b.plot
  pub course : ShrinksTo b.plot p

-- States that `found` is the reduced campaign of a seed if the seed's campaign is broken, and otherwise `None`.
abbrev pub IsShrunk : (ℕ → Plot) → ℕ → Option Breach → Type 0
IsShrunk plots seed found = MatchOption found (ComesWell (plots seed)) (IsBreachOf (plots seed) seed)

-- States that the second argument is one of the campaigns in the list and that none of them is less, or that it is
-- `None` and the list has no campaign.
abbrev pub IsLeastOf : List (Option Breach) → Option Breach → Type 0
IsLeastOf all None = All (λ o. o ≡ None) all
IsLeastOf all (Some b) = Contains all (Some b) × All (λ o. IfSome o (λ c. is_before c b ≡ false)) all

-- Returns the lesser of two reduced campaigns, or the first if neither is less. If only one is given, returns that one.
abbrev pub better : Option Breach → Option Breach → Option Breach
better None second = second
better (Some a) None = Some a
better (Some a) (Some b) = cond (is_before b a) (Some b) (Some a)

-- States that `found` is the least of the reduced campaigns of the seeds from `first` to `end` - 1. It is `None` if no
-- campaign of these seeds is broken.
pub record IsLeastBreach (plots : ℕ → Plot) (first end : ℕ) (found : Option Breach) : Type 0 where
  pub all : List (Option Breach)
  pub shrunk : AllZip (IsShrunk plots) (nat_range first end) all
  pub least : IsLeastOf all found

-- Returns the range that contains only `n`.
abbrev pub only : ℕ → CountRange
only n = record { low = n; high = n }

-- Returns the family that differs from `f` in three ranges: the number of generals is always `n`, the bound `m`, and
-- the number of traitors `t`.
abbrev pub narrowed : Family → ℕ → ℕ → ℕ → Family
narrowed f n m t = record f { generals = only n; bound = only m; traitors = only t }

-- States that each seed draws the same traitors from both adversaries.
pub record IsSameAs (a b : Adversary) : Type 0 where
  pub given : given_in b ≡ given_in a
  pub counts : do_count b ≡ do_count a
  pub lies : (m : Manner) (v c seed n g : ℕ) → lies_by b m v c seed n g ≡ lies_by a m v c seed n g

-- States that no campaign of the seeds from `first` to `end` - 1 is broken.
abbrev pub AreAllSound : (ℕ → Plot) → ℕ → ℕ → Type 0
AreAllSound plots first end = (seed : ℕ) → first ≤ seed → seed < end → ComesWell (plots seed)

-- Returns the lesser of the earlier result and the reduced campaign, which was found with `t` traitors. Returns the
-- earlier result if neither is less. If only one is given, returns that one.
abbrev pub least_so_far : ℕ → Option Breach → Option Breaking → Option Breaking
least_so_far t None earlier = earlier
least_so_far t (Some b) None = Some (record { traitors = t; breach = b })
least_so_far t (Some b) (Some earlier) =
    cond (is_before b earlier.breach) (Some (record { traitors = t; breach = b })) (Some earlier)

-- States that the least of the reduced campaigns of the seeds from `first` to `end` - 1 is greater than `b`, or that no
-- campaign of these seeds is broken.
abbrev pub AreGreater : (ℕ → Plot) → ℕ → ℕ → Breach → Type 0
AreGreater plots first end b =
    (found : Option Breach) × IsLeastBreach plots first end found × IfSome found (λ c. is_before b c ≡ true)

-- States that the least of the reduced campaigns of the seeds from `first` to `end` - 1 is not less than `b`, or that
-- no campaign of these seeds is broken.
abbrev pub AreNotLess : (ℕ → Plot) → ℕ → ℕ → Breach → Type 0
AreNotLess plots first end b =
    (found : Option Breach) × IsLeastBreach plots first end found × IfSome found (λ c. is_before c b ≡ false)

-- States that `b` is the least of the reduced campaigns of the seeds from `first` to `end` - 1, with `n` generals, the
-- bound `m` and each number of traitors in `span`. If several campaigns are equally small, it is the one that was found
-- with the fewest traitors.
pub record IsBreaking (f : Family) (n m : ℕ) (span : CountRange) (first end : ℕ) (b : Breaking) : Type 0 where
  pub within : span.low ≤ b.traitors
  pub inside : b.traitors ≤ span.high
  pub least : IsLeastBreach (plot_of (narrowed f n m b.traitors)) first end (Some b.breach)
  pub fewer : (t : ℕ) → span.low ≤ t → t < b.traitors → AreGreater (plot_of (narrowed f n m t)) first end b.breach
  pub more : (t : ℕ) → b.traitors < t → t ≤ span.high → AreNotLess (plot_of (narrowed f n m t)) first end b.breach

-- States that no campaign of the seeds from `first` to `end` - 1 is broken, with `n` generals, the bound `m` and each
-- number of traitors in `span`.
abbrev pub NoneBreaks : Family → ℕ → ℕ → CountRange → ℕ → ℕ → Type 0
NoneBreaks f n m span first end =
    (t : ℕ) → span.low ≤ t → t ≤ span.high → AreAllSound (plot_of (narrowed f n m t)) first end

-- States that the error is a fault of the text of the seed's campaign or of a reduction's text, or that memory ran out.
abbrev pub IsRefusedBy : (ℕ → Plot) → ℕ → ScenarioError → Type 0
IsRefusedBy plots seed e = e ≢ Memory → IsRefusedOf (plots seed) e

-- States that `answer` is right for a seed: the reduced campaign if the seed's campaign is broken, and otherwise
-- `None`, or an error.
abbrev pub IsAnswerTo : (ℕ → Plot) → ℕ → Result (Option Breach) ScenarioError → Type 0
IsAnswerTo plots seed answer = IfOk answer (IsShrunk plots seed) × IfErr answer (IsRefusedBy plots seed)

-- States that `e` is the first error in the list of answers.
abbrev pub IsFirstError : {X : Type 0} → List (Result X ScenarioError) → ScenarioError → Type 0
IsFirstError {X} answers e =
    (before : List X) × (rest : List (Result X ScenarioError)) × (answers ≡ map Ok before ++ Err e ∷ rest)

-- States that `e` is a fault of a campaign's text or of a reduction's text. The campaign is of a seed from `first` to
-- `end` - 1, and no campaign of an earlier seed has such a fault.
pub record IsRefusedIn (plots : ℕ → Plot) (first end : ℕ) (e : ScenarioError) : Type 0 where
  pub seed : ℕ
  pub behind : first ≤ seed
  pub before : seed < end
  pub refused : IsRefusedOf (plots seed) e
  pub earlier : (other : ℕ) → first ≤ other → other < seed → (o : Option Breach) × IsShrunk plots other o

-- States that `e` is the error of the search with some number of traitors in `span`. The search with fewer traitors in
-- `span` has no error.
pub record IsRefusedWith (f : Family) (n m : ℕ) (span : CountRange) (first end : ℕ) (e : ScenarioError) : Type 0 where
  pub traitors : ℕ
  pub within : span.low ≤ traitors
  pub inside : traitors ≤ span.high
  pub refused : IsRefusedIn (plot_of (narrowed f n m traitors)) first end e
  pub fewer : (t : ℕ) → span.low ≤ t → t < traitors →
      (found : Option Breach) × IsLeastBreach (plot_of (narrowed f n m t)) first end found
