-- Lemmas about finding the least reduced campaign, piece by piece.
use Rattle.std.proofs.Common.{ℕ, ◌+◌, ◌-◌, ◌≤◌, ◌≡◌, List, [], ◌++◌, sym, subst, arith, Option, None}
use Rattle.std.specs.List.{AllZip, range_with_len}
use Rattle.std.proofs.lemmas.List.Elements.{All-nil}
use Rattle.surveys.specs.Family.{Family}
use Rattle.surveys.specs.Plotting.{plot_of}
use Rattle.surveys.specs.declared.breach.Breach.{Breach}
use Rattle.surveys.specs.Breaches.{IsLeastOf, IsShrunk, better}
use Rattle.surveys.proofs.Ranks.{least_of_both}
use Rattle.surveyor.specs.declared.task.Survey.{Survey}
use Rattle.surveyor.specs.Kept.{File, Gains, breach_files}
use Rattle.surveyor.specs.Printed.{IsLeastKept}
use Rattle.surveys.proofs.Spans.{zip_both}
use Rattle.surveyor.proofs.KeptLemmas.{breaches_gained, no_breaches, none_gained}

-- The campaigns before the seed `next` are reduced, and the reduced ones are written to files.
pub record IsLeastSoFar (s : Survey) (f : Family) (empty full : Option (List File)) (next : ℕ) (so_far : Option Breach) : Type 0 where
  pub from : s.first ≤ next
  pub until : next ≤ s.last + 1
  pub all : List (Option Breach)
  pub shrunk : AllZip (IsShrunk (plot_of f)) (range_with_len s.first (next - s.first)) all
  pub least : IsLeastOf all so_far
  pub filed : Gains empty full (breach_files s.keep all)

pub nothing_yet : (s : Survey) (f : Family) (empty : Option (List File)) (next : ℕ) (so_far : Option Breach) → next ≡ s.first → s.first ≤ s.last → so_far ≡ None → IsLeastSoFar s f empty empty next so_far
nothing_yet s f empty next so_far is some none =
    let no : next - s.first ≡ 0 = omega arith in
    record {
      from = omega arith;
      until = omega arith;
      all = [];
      shrunk = subst (λ (n : ℕ). AllZip (IsShrunk (plot_of f)) (range_with_len s.first n) []) (sym no) tt;
      least = subst (λ (o : Option Breach). IsLeastOf [] o) (sym none) (All-nil (λ (o : Option Breach). o ≡ None));
      filed = subst (λ (l : List File). Gains empty empty l) (sym (no_breaches s.keep)) (none_gained empty);
    }

pub and_more : (s : Survey) (f : Family) (empty some full : Option (List File)) (next to : ℕ) (so_far new after : Option Breach) (found : List (Option Breach)) → next ≤ to → to ≤ s.last + 1 → IsLeastSoFar s f empty some next so_far
    → AllZip (IsShrunk (plot_of f)) (range_with_len next (to - next)) found → IsLeastOf found new → after ≡ better so_far new → Gains some full (breach_files s.keep found) → IsLeastSoFar s f empty full to after
and_more s f empty some full next to so_far new after found low high h shrunk least is files =
    let from = h.from in
    record {
      from = omega arith;
      until = high;
      all = h.all ++ found;
      shrunk = zip_both (IsShrunk (plot_of f)) s.first next to h.all found from low h.shrunk shrunk;
      least = subst (λ (o : Option Breach). IsLeastOf (h.all ++ found) o) (sym is) (least_of_both h.all found so_far new h.least least);
      filed = breaches_gained s.keep h.all found empty some full h.filed files;
    }

pub least_is : (s : Survey) (f : Family) (empty full : Option (List File)) (next : ℕ) (so_far : Option Breach) → s.last + 1 ≤ next → IsLeastSoFar s f empty full next so_far → IsLeastKept s f empty full so_far
least_is s f empty full next so_far done h =
    let until = h.until in
    let end : next ≡ s.last + 1 = omega arith in
    record {
      all = h.all;
      shrunk = subst (λ (n : ℕ). AllZip (IsShrunk (plot_of f)) (range_with_len s.first (n - s.first)) h.all) end h.shrunk;
      least = h.least;
      kept = h.filed;
    }
