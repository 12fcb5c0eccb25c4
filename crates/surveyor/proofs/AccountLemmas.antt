-- Lemmas about playing a survey with `--lines --details`, piece by piece.
use Rattle.std.proofs.Common.{ℕ, ◌+◌, ◌-◌, ◌<◌, ◌≤◌, ◌≡◌, List, [], ◌∷◌, ◌++◌, length, map, take, get_or, refl, sym, ap, subst, ◌∙◌, arith, append_assoc, append-nil, Option}
use Rattle.std.specs.Prelude.{flat_map}
use Rattle.std.specs.List.{AllZip, range_with_len}
use Rattle.std.specs.Io.KnownBytes.{Appends}
use Rattle.std.proofs.KnownBytes.{Appends-trans}
use Rattle.std.proofs.lemmas.List.{map_more}
use Rattle.surveys.specs.Account.{Account}
use Rattle.surveys.specs.Accounting.{IsAccountOf, account_text}
use Rattle.surveys.specs.declared.finding.Finding.{Finding}
use Rattle.surveys.specs.Family.{Family}
use Rattle.surveys.specs.Heads.{head_text}
use Rattle.surveyor.specs.declared.task.ReportKind.{ReportKind}
use Rattle.surveyor.specs.declared.task.ReportKind.TheVariants.{Accounts}
use Rattle.surveyor.specs.declared.task.Survey.{Survey}
use Rattle.surveyor.specs.Kept.{File, Gains, campaign_files}
use Rattle.surveyor.specs.Printed.{IsPrinted, IsToldIn, kept_seeds}
use Rattle.surveys.proofs.Spans.{zip_both}
use Rattle.surveyor.proofs.KeptLemmas.{campaigns_gained, no_campaigns, none_gained}

abbrev pub findings : List Account → List Finding
findings all = map (λ (a : Account). a.finding) all

findings_both : (xs ys : List Account) → findings (xs ++ ys) ≡ findings xs ++ findings ys
findings_both [] ys = refl
findings_both (x ∷ xs) ys = ap (λ (l : List Finding). x.finding ∷ l) (findings_both xs ys)

pub finding_more : (xs : List Account) (i : ℕ) (x : Account) (now new : List Finding) → i < length xs → x ≡ get_or xs i x → now ≡ findings (take i xs) → new ≡ now ++ x.finding ∷ [] → new ≡ findings (take (i + 1) xs)
finding_more xs i x now new less at so is =
    is ∙ (ap (λ (l : List Finding). l ++ x.finding ∷ []) so ∙ (ap (λ (y : Account). findings (take i xs) ++ y.finding ∷ []) at ∙ sym (map_more (λ (a : Account). a.finding) xs i x less)))

texts_both : (xs ys : List Account) → flat_map account_text (xs ++ ys) ≡ flat_map account_text xs ++ flat_map account_text ys
texts_both [] ys = refl
texts_both (x ∷ xs) ys = ap (λ (l : List ℕ). account_text x ++ l) (texts_both xs ys) ∙ sym (append_assoc (account_text x) (flat_map account_text xs) (flat_map account_text ys))

-- The campaigns before the seed `next` are played, their lines are printed, and those to keep are written to files.
pub record IsAccountedSoFar (s : Survey) (f : Family) (start now : Option (List ℕ)) (empty full : Option (List File)) (next : ℕ) : Type 0 where
  pub from : s.first ≤ next
  pub until : next ≤ s.last + 1
  pub all : List Account
  pub so_far : AllZip (IsAccountOf f) (range_with_len s.first (next - s.first)) all
  pub written : Appends start now (head_text f ++ flat_map account_text all)
  pub filed : Gains empty full (campaign_files s.keep f (kept_seeds s.keeps_all (findings all)))

pub accounts_begin : (s : Survey) (f : Family) (start now : Option (List ℕ)) (empty : Option (List File)) (next : ℕ) → next ≡ s.first → s.first ≤ s.last → Appends start now (head_text f) → IsAccountedSoFar s f start now empty empty next
accounts_begin s f start now empty next is some head =
    let none : next - s.first ≡ 0 = omega arith in
    record {
      from = omega arith;
      until = omega arith;
      all = [];
      so_far = subst (λ (n : ℕ). AllZip (IsAccountOf f) (range_with_len s.first n) []) (sym none) tt;
      written = subst (λ (l : List ℕ). Appends start now l) (sym (append-nil (head_text f))) head;
      filed = subst (λ (l : List File). Gains empty empty l) (sym (no_campaigns s.keep s.keeps_all f)) (none_gained empty);
    }

pub accounts_go : (s : Survey) (f : Family) (start now later : Option (List ℕ)) (empty some full : Option (List File)) (next to : ℕ) (more : List Account) → IsAccountedSoFar s f start now empty some next → next ≤ to → to ≤ s.last + 1
    → AllZip (IsAccountOf f) (range_with_len next (to - next)) more → Appends now later (flat_map account_text more) → Gains some full (campaign_files s.keep f (kept_seeds s.keeps_all (findings more))) → IsAccountedSoFar s f start later empty full to
accounts_go s f start now later empty some full next to more h low high played lines files =
    let from = h.from in
    let front = head_text f ++ flat_map account_text h.all in
    let text : front ++ flat_map account_text more ≡ head_text f ++ flat_map account_text (h.all ++ more) =
    append_assoc (head_text f) (flat_map account_text h.all) (flat_map account_text more) ∙ ap (λ (l : List ℕ). head_text f ++ l) (sym (texts_both h.all more)) in
    let filed : Gains empty full (campaign_files s.keep f (kept_seeds s.keeps_all (findings h.all ++ findings more))) = campaigns_gained s.keep s.keeps_all f (findings h.all) (findings more) empty some full h.filed files in
    record {
      from = omega arith;
      until = high;
      all = h.all ++ more;
      so_far = zip_both (IsAccountOf f) s.first next to h.all more from low h.so_far played;
      written = subst (λ (l : List ℕ). Appends start later l) text (Appends-trans start now later front (flat_map account_text more) h.written lines);
      filed = subst (λ (l : List Finding). Gains empty full (campaign_files s.keep f (kept_seeds s.keeps_all l))) (sym (findings_both h.all more)) filed;
    }

pub accounts_end : (s : Survey) (f : Family) (start now : Option (List ℕ)) (empty full : Option (List File)) (next : ℕ) → s.shape ≡ Accounts → IsAccountedSoFar s f start now empty full next → s.last + 1 ≤ next → IsPrinted s f start now empty full
accounts_end s f start now empty full next is h done =
    let until = h.until in
    let end : next ≡ s.last + 1 = omega arith in
    let text = head_text f ++ flat_map account_text h.all in
    let files = campaign_files s.keep f (kept_seeds s.keeps_all (findings h.all)) in
    record {
      text = text;
      files = files;
      told = subst (λ (shape : ReportKind). IsToldIn shape s f text files) (sym is) (record {
        all = h.all;
        each = subst (λ (n : ℕ). AllZip (IsAccountOf f) (range_with_len s.first (n - s.first)) h.all) end h.so_far;
        whole = refl;
        kept = refl;
      });
      written = h.written;
      kept = h.filed;
    }
