-- The search of many seeds, a piece of them at a time.
use Rattle.std.proofs.Common.{ℕ, zero, suc, ◌+◌, ◌-◌, ◌<◌, ◌≤◌, ◌≡◌, max, List, [], ◌∷◌, ◌++◌, subst, sym, arith, Option, None, ◌⊎◌, ⊎_elim}
use Rattle.std.specs.List.{AllZip, range_with_len}
use Rattle.std.proofs.lemmas.Bool.{cases_lt}
use Rattle.std.proofs.lemmas.List.Elements.{All-nil}
use Rattle.scenario.specs.declared.fault.ScenarioError.{ScenarioError}
use Rattle.surveys.specs.Plot.{Plot}
use Rattle.surveys.specs.declared.breach.Breach.{Breach}
use Rattle.surveys.specs.Breaches.{IsLeastBreach, IsLeastOf, IsRefusedIn, IsShrunk, better}
use Rattle.surveys.proofs.BreachesFound.{first_or_later}
use Rattle.surveys.proofs.Ranks.{least_of_both}
use Rattle.surveys.proofs.Spans.{zip_both}

-- The seeds from `first` to `next` - 1 are searched, and `so_far` is the least campaign that was found.
pub record IsSearched (plots : ℕ → Plot) (first next end : ℕ) (so_far : Option Breach) : Type 0 where
  pub from : first ≤ next
  pub until : next ≤ max first end
  pub least : IsLeastBreach plots first next so_far

pub none_searched : (plots : ℕ → Plot) (first next end : ℕ) (least : Option Breach) → next ≡ first → least ≡ None → IsSearched plots first next end least
none_searched plots first next end least is none =
    let no : next - first ≡ 0 = omega arith in
    record {
      from = omega arith;
      until = omega arith;
      least = record {
        all = [];
        shrunk = subst (λ (n : ℕ). AllZip (IsShrunk plots) (range_with_len first n) []) (sym no) tt;
        least = subst (λ (o : Option Breach). IsLeastOf [] o) (sym none) (All-nil (λ (o : Option Breach). o ≡ None));
      };
    }

pub piece_searched : (plots : ℕ → Plot) (first next until end : ℕ) (so_far new after : Option Breach) (found : List (Option Breach)) → IsSearched plots first next end so_far → next ≤ until → until ≤ end
    → AllZip (IsShrunk plots) (range_with_len next (until - next)) found → IsLeastOf found new → after ≡ better so_far new → IsSearched plots first until end after
piece_searched plots first next until end so_far new after found h low high shrunk least is =
    let from = h.from in
    record {
      from = omega arith;
      until = omega arith;
      least = record {
        all = h.least.all ++ found;
        shrunk = zip_both (IsShrunk plots) first next until h.least.all found from low h.least.shrunk shrunk;
        least = subst (λ (o : Option Breach). IsLeastOf (h.least.all ++ found) o) (sym is) (least_of_both h.least.all found so_far new h.least.least least);
      };
    }

pub all_searched : (plots : ℕ → Plot) (first next end : ℕ) (least : Option Breach) → IsSearched plots first next end least → end ≤ next → IsLeastBreach plots first end least
all_searched plots first next end least h done =
    let from = h.from in
    let until = h.until in
    let same : next - first ≡ end - first = omega arith in
    record {
      all = h.least.all;
      shrunk = subst (λ (n : ℕ). AllZip (IsShrunk plots) (range_with_len first n) h.least.all) same h.least.shrunk;
      least = h.least.least;
    }

-- Of each seed that is searched the reduced campaign is known.
shrunk_at : (plots : ℕ → Plot) (a n : ℕ) (all : List (Option Breach)) → AllZip (IsShrunk plots) (range_with_len a n) all → (seed : ℕ) → a ≤ seed → seed < a + n → (o : Option Breach) × IsShrunk plots seed o
shrunk_at plots a zero all h seed low high = absurd (omega arith)
shrunk_at plots a (suc n) [] h seed low high = absurd h
shrunk_at plots a (suc n) (o ∷ os) h seed low high = ⊎_elim
    (λ e. (o, subst (λ x. IsShrunk plots x o) e h.0))
    (λ lt. shrunk_at plots (a + 1) n os h.1 seed (omega arith) (omega arith))
    (first_or_later a seed low)

pub refused_in_piece : (plots : ℕ → Plot) (first next until end : ℕ) (least : Option Breach) (e : ScenarioError) → IsSearched plots first next end least → until ≤ end → IsRefusedIn plots next until e → IsRefusedIn plots first end e
refused_in_piece plots first next until end least e h high r =
    let from = h.from in
    let behind = r.behind in
    let before = r.before in
    record {
      seed = r.seed;
      behind = omega arith;
      before = omega arith;
      refused = r.refused;
      earlier = λ other low lt. ⊎_elim (λ early. shrunk_at plots first (next - first) h.least.all h.least.shrunk other low (omega arith)) (λ late. r.earlier other late lt) (cases_lt other next);
    }
