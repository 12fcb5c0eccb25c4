-- Lemmas about playing a survey piece by piece.
use Rattle.std.proofs.Common.{ℕ, zero, suc, ◌+◌, ◌-◌, ◌^◌, ◌<◌, ◌≤◌, ◌≡◌, ◌≢◌, List, length, [], ◌∷◌, ◌++◌, refl, sym, ap, subst, ◌∙◌, arith, append_assoc, append-nil, Option}
use Rattle.std.specs.Prelude.{flat_map}
use Rattle.std.specs.List.{AllZip, range_with_len}
use Rattle.std.specs.Io.KnownBytes.{Appends}
use Rattle.std.proofs.lemmas.List.FromFn.{length-range_with_len}
use Rattle.std.proofs.KnownBytes.{Appends-trans}
use Rattle.surveys.specs.declared.finding.Finding.{Finding}
use Rattle.surveys.specs.Family.{Family}
use Rattle.surveys.specs.Judging.{IsFindingOf}
use Rattle.surveys.specs.Lines.{line_text}
use Rattle.surveys.specs.Running.{Counts, counts_of}
use Rattle.surveyor.specs.declared.task.ReportKind.{ReportKind}
use Rattle.surveyor.specs.declared.task.ReportKind.TheVariants.{Sums, Lines, Accounts, Table, Csv, Picture, Least}
use Rattle.surveyor.specs.declared.task.Survey.{Survey}
use Rattle.surveyor.specs.Kept.{File, Gains, campaign_files}
use Rattle.surveyor.specs.Printed.{IsPlayed, IsPrinted, IsToldIn, counts_text, head_in, kept_seeds, lines_in, summary_text}
use Rattle.surveys.proofs.Spans.{zip_both}
use Rattle.surveyor.proofs.KeptLemmas.{campaigns_gained, no_campaigns, none_gained}

texts_both : (xs ys : List Finding) → flat_map line_text (xs ++ ys) ≡ flat_map line_text xs ++ flat_map line_text ys
texts_both [] ys = refl
texts_both (x ∷ xs) ys = ap (λ (l : List ℕ). line_text x ++ l) (texts_both xs ys) ∙ sym (append_assoc (line_text x) (flat_map line_text xs) (flat_map line_text ys))

lines_both : (shape : ReportKind) (xs ys : List Finding) → lines_in shape (xs ++ ys) ≡ lines_in shape xs ++ lines_in shape ys
lines_both Sums xs ys = refl
lines_both Lines xs ys = texts_both xs ys
lines_both Accounts xs ys = refl
lines_both Table xs ys = refl
lines_both Csv xs ys = refl
lines_both Picture xs ys = refl
lines_both Least xs ys = refl

no_lines : (shape : ReportKind) → lines_in shape [] ≡ []
no_lines Sums = refl
no_lines Lines = refl
no_lines Accounts = refl
no_lines Table = refl
no_lines Csv = refl
no_lines Picture = refl
no_lines Least = refl

-- Lists that are related item by item are equally long.
zip_long : {B : Type 0} (R : ℕ → B → Type 0) (xs : List ℕ) (ys : List B) → AllZip R xs ys → length xs ≡ length ys
zip_long R [] [] h = refl
zip_long R [] (y ∷ ys) h = absurd h
zip_long R (x ∷ xs) [] h = absurd h
zip_long R (x ∷ xs) (y ∷ ys) h = (let e = zip_long R xs ys h.1 in omega arith)

long : {B : Type 0} (R : ℕ → B → Type 0) (a n : ℕ) (ys : List B) → AllZip R (range_with_len a n) ys → length ys ≡ n
long R a n ys h = sym (zip_long R (range_with_len a n) ys h) ∙ length-range_with_len a n

-- The campaigns before the seed `next` are played. Their lines are printed, and those to keep are written to files.
pub record IsUnderWay (s : Survey) (f : Family) (start now : Option (List ℕ)) (empty full : Option (List File)) (next : ℕ) (all : Counts) : Type 0 where
  pub from : s.first ≤ next
  pub until : next ≤ s.last + 1
  pub found : List Finding
  pub so_far : AllZip (IsFindingOf f) (range_with_len s.first (next - s.first)) found
  pub counted : all ≡ counts_of found
  pub written : Appends start now (head_in s.shape f ++ lines_in s.shape found)
  pub filed : Gains empty full (campaign_files s.keep f (kept_seeds s.keeps_all found))

pub begins : (s : Survey) (f : Family) (start now : Option (List ℕ)) (empty : Option (List File)) (next : ℕ) (all : Counts) → next ≡ s.first → s.first ≤ s.last → all ≡ counts_of [] → Appends start now (head_in s.shape f) → IsUnderWay s f start now empty empty next all
begins s f start now empty next all is some none head =
    let zero_long : next - s.first ≡ 0 = omega arith in
    let text : head_in s.shape f ≡ head_in s.shape f ++ lines_in s.shape [] = sym (append-nil (head_in s.shape f)) ∙ ap (λ (l : List ℕ). head_in s.shape f ++ l) (sym (no_lines s.shape)) in
    record {
      from = omega arith;
      until = omega arith;
      found = [];
      so_far = subst (λ (n : ℕ). AllZip (IsFindingOf f) (range_with_len s.first n) []) (sym zero_long) tt;
      counted = none;
      written = subst (λ (l : List ℕ). Appends start now l) text head;
      filed = subst (λ (l : List File). Gains empty empty l) (sym (no_campaigns s.keep s.keeps_all f)) (none_gained empty);
    }

pub goes : (s : Survey) (f : Family) (start now later : Option (List ℕ)) (empty some full : Option (List File)) (next to : ℕ) (all : Counts) (more : List Finding) (after : Counts) → IsUnderWay s f start now empty some next all → next ≤ to → to ≤ s.last + 1 → s.last < 2 ^ 64 - 1
    → AllZip (IsFindingOf f) (range_with_len next (to - next)) more → Appends now later (lines_in s.shape more) → ((before : List Finding) → all ≡ counts_of before → length before + length more < 2 ^ 64 → after ≡ counts_of (before ++ more)) → Gains some full (campaign_files s.keep f (kept_seeds s.keeps_all more)) → IsUnderWay s f start later empty full to after
goes s f start now later empty some full next to all more after w low high inside played lines grows files =
    let from = w.from in
    let old = long (IsFindingOf f) s.first (next - s.first) w.found w.so_far in
    let new = long (IsFindingOf f) next (to - next) more played in
    let few : length w.found + length more < 2 ^ 64 = omega arith in
    let front = head_in s.shape f ++ lines_in s.shape w.found in
    let text : front ++ lines_in s.shape more ≡ head_in s.shape f ++ lines_in s.shape (w.found ++ more) =
    append_assoc (head_in s.shape f) (lines_in s.shape w.found) (lines_in s.shape more) ∙ ap (λ (l : List ℕ). head_in s.shape f ++ l) (sym (lines_both s.shape w.found more)) in
    record {
      from = omega arith;
      until = high;
      found = w.found ++ more;
      so_far = zip_both (IsFindingOf f) s.first next to w.found more from low w.so_far played;
      counted = grows w.found w.counted few;
      written = subst (λ (l : List ℕ). Appends start later l) text (Appends-trans start now later front (lines_in s.shape more) w.written lines);
      filed = campaigns_gained s.keep s.keeps_all f w.found more empty some full w.filed files;
    }

told_in : (shape : ReportKind) (s : Survey) (f : Family) (text : List ℕ) (files : List File) → shape ≢ Least → shape ≢ Accounts → IsPlayed s f text files → IsToldIn shape s f text files
told_in Sums s f text files ne nor h = h
told_in Lines s f text files ne nor h = h
told_in Table s f text files ne nor h = h
told_in Csv s f text files ne nor h = h
told_in Picture s f text files ne nor h = h
told_in Accounts s f text files ne nor h = absurd (nor refl)
told_in Least s f text files ne nor h = absurd (ne refl)

pub ends : (s : Survey) (f : Family) (start now last : Option (List ℕ)) (empty full : Option (List File)) (next : ℕ) (all : Counts) → s.shape ≢ Least → s.shape ≢ Accounts → IsUnderWay s f start now empty full next all → s.last + 1 ≤ next → Appends now last (counts_text s.shape all) → IsPrinted s f start last empty full
ends s f start now last empty full next all ne nor w done summary =
    let until = w.until in
    let end : next ≡ s.last + 1 = omega arith in
    let front = head_in s.shape f ++ lines_in s.shape w.found in
    let same : counts_text s.shape all ≡ summary_text s.shape w.found = ap (counts_text s.shape) w.counted in
    let text : front ++ counts_text s.shape all ≡ head_in s.shape f ++ (lines_in s.shape w.found ++ summary_text s.shape w.found) =
    ap (λ (l : List ℕ). front ++ l) same ∙ append_assoc (head_in s.shape f) (lines_in s.shape w.found) (summary_text s.shape w.found) in
    record {
      text = front ++ counts_text s.shape all;
      files = campaign_files s.keep f (kept_seeds s.keeps_all w.found);
      told = told_in s.shape s f (front ++ counts_text s.shape all) (campaign_files s.keep f (kept_seeds s.keeps_all w.found)) ne nor (record {
        found = w.found;
        all = subst (λ (n : ℕ). AllZip (IsFindingOf f) (range_with_len s.first (n - s.first)) w.found) end w.so_far;
        whole = text;
        kept = refl;
      });
      written = Appends-trans start now last front (counts_text s.shape all) w.written summary;
      kept = w.filed;
    }
