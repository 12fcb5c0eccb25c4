-- The counts of two parts of a survey together.
use Rattle.std.proofs.Common.{ℕ, ◌+◌, ◌≡◌, cond, List, [], ◌∷◌, ◌++◌, length, refl, sym, ap, ◌∙◌, arith, length-append, Option, None, Some}
use Rattle.std.specs.Prelude.{count_by}
use Rattle.std.proofs.lemmas.List.Sums.{sum_by-append}
use Rattle.surveys.specs.declared.finding.Finding.{Finding}
use Rattle.surveys.specs.declared.sums.CampaignOutcome.{CampaignOutcome}
use Rattle.surveys.specs.declared.sums.CampaignOutcome.TheVariants.{Kept, Broken, Disobeyed}
use Rattle.surveys.specs.declared.sums.Sums.{Sums}
use Rattle.surveys.specs.declared.sums.Tally.{Tally}
use Rattle.surveys.specs.Sums.{SumsOfParts, has, joined, least, lesser, seed_of, sums_of, tally_joined, tally_of}

pub lesser-associative : (a b c : Option ℕ) → lesser (lesser a b) c ≡ lesser a (lesser b c)
lesser-associative None b c = refl
lesser-associative (Some a) None c = refl
lesser-associative (Some a) (Some b) None = refl
lesser-associative (Some a) (Some b) (Some c) = ap Some (omega arith)

pub lesser-commutes : (a b : Option ℕ) → lesser a b ≡ lesser b a
lesser-commutes None None = refl
lesser-commutes None (Some b) = refl
lesser-commutes (Some a) None = refl
lesser-commutes (Some a) (Some b) = ap Some (omega arith)

pub lesser-none : (a : Option ℕ) → lesser a None ≡ a
lesser-none None = refl
lesser-none (Some a) = refl

pub least-append : (outcome : CampaignOutcome) (front back : List Finding) → least outcome (front ++ back) ≡ lesser (least outcome front) (least outcome back)
least-append outcome [] back = refl
least-append outcome (f ∷ fs) back =
    ap (lesser (seed_of outcome f)) (least-append outcome fs back) ∙ sym (lesser-associative (seed_of outcome f) (least outcome fs) (least outcome back))

pub count-append : (outcome : CampaignOutcome) (front back : List Finding) → count_by (has outcome) (front ++ back) ≡ count_by (has outcome) front + count_by (has outcome) back
count-append outcome front back = sum_by-append (λ f. cond (has outcome f) 1 0) front back

-- The count of an outcome and the least seed, as a record.
abbrev tally : ℕ → Option ℕ → Tally
tally c a = record { count = c; first = a }

tallied : (c d : ℕ) (a b : Option ℕ) → c ≡ d → a ≡ b → tally c a ≡ tally d b
tallied c d a b e h = cc

tally-append : (outcome : CampaignOutcome) (front back : List Finding) → tally_of outcome (front ++ back) ≡ tally_joined (tally_of outcome front) (tally_of outcome back)
tally-append outcome front back = tallied _ _ _ _ (count-append outcome front back) (least-append outcome front back)

tally-swapped : (a b : Tally) → tally_joined a b ≡ tally_joined b a
tally-swapped a b = tallied _ _ _ _ (omega arith) (lesser-commutes a.first b.first)

sums-append : (front back : List Finding) → sums_of (front ++ back) ≡ joined (sums_of front) (sums_of back)
sums-append front back =
    let campaigns : length (front ++ back) ≡ length front + length back = length-append front back in
    let kept = tally-append Kept front back in
    let broken = tally-append Broken front back in
    let disobeyed = tally-append Disobeyed front back in
    cc

joined-swapped : (a b : Sums) → joined a b ≡ joined b a
joined-swapped a b =
    let campaigns : a.campaigns + b.campaigns ≡ b.campaigns + a.campaigns = omega arith in
    let kept = tally-swapped a.kept b.kept in
    let broken = tally-swapped a.broken b.broken in
    let disobeyed = tally-swapped a.disobeyed b.disobeyed in
    cc

pub sums_law : SumsOfParts
sums_law = record {
  whole = sums-append;
  swapped = λ front back. sums-append front back ∙ (joined-swapped (sums_of front) (sums_of back) ∙ sym (sums-append back front));
}
