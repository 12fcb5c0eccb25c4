-- The rule of the post (own). For each general, the letters already taken, followed by those still queued, are exactly
-- the letters that he has posted. Suppose 1 has posted a and b, 2 has posted c, and a is taken. Then c and b may be
-- queued, or b and c. But b is never taken before a.
use Rattle.std.specs.Prelude.{◌≡◌, ℕ, ◌<◌, ◌≤◌, Bool, true, false, List, [], ◌∷◌, ◌++◌, All, Option, Some, None}
use mathlib.Core.Option.{some}
use lib.ListN.{get_elem?}
use Rattle.round.specs.Letters.{Letter}
use Rattle.threads.specs.declared.knowledge.Posted.{Posted}
use Rattle.threads.specs.declared.knowledge.Known.{Known}
use Rattle.threads.specs.Delivery.{letters_of}

abbrev pub known : Bool → Bool → ℕ → List Letter → ℕ → List Posted → Known
known posts takes general letters made back = record {
  posts = posts;
  takes = takes;
  general = general;
  letters = letters;
  made = made;
  back = back;
}

-- Returns what a general's poster knows after he has posted these letters.
abbrev pub poster : ℕ → List Letter → Known
poster general letters = known true false general letters 0 []

-- Returns what the collector knows after it has taken these letters and made this number of posters, if the posters in
-- `back` were returned to it.
abbrev pub collector : List Letter → ℕ → List Posted → Known
collector taken made back = known false true 0 taken made back

-- Returns what the holder of a pass knows once the pass is no longer used: nothing.
abbrev pub spent : Known
spent = known false false 0 [] 0 []

-- States that, if this pass is a poster, it is the one seated for its general, and it has posted exactly the letters
-- that came from him. `seat` says which pass is a general's poster, or `None` if he has none.
abbrev pub FitsPoster : (ℕ → Option ℕ) → List Letter → ℕ → Known → Type 0
FitsPoster seat came pass v = v.posts ≡ true → (seat v.general ≡ Some pass) × (v.letters ≡ letters_of v.general came)

-- States that each returned poster has posted exactly the letters that came from its general, and that he has no poster
-- now.
abbrev pub AreBack : ℕ → (ℕ → Option ℕ) → List Letter → List Posted → Type 0
AreBack made seat came [] = Unit {0}
AreBack made seat came (p ∷ back) = ((p.general < made) × (seat p.general ≡ None)
    × (p.letters ≡ letters_of p.general came)) × AreBack made seat came back

-- States that, if this pass is the collector, it is the only one and knows the letters that were taken. No letter has
-- come from a general for whom no poster was made yet.
abbrev pub FitsCollector : ℕ → (ℕ → Option ℕ) → List Letter → List Letter → ℕ → Known → Type 0
FitsCollector reader seat taken came pass v =
    v.takes ≡ true
    → (pass ≡ reader) × (v.letters ≡ taken)
    × ((g : ℕ) → v.made ≤ g → (seat g ≡ None) × (letters_of g came ≡ []))
    × AreBack v.made seat came v.back

abbrev pub Fits : ℕ → (ℕ → Option ℕ) → List Letter → List Letter → ℕ → Known → Type 0
Fits reader seat taken came pass v = FitsPoster seat came pass v × FitsCollector reader seat taken came pass v

-- States the rule of a post. The letters that came are those taken, followed by those queued, and what each pass knows
-- agrees with them.
abbrev pub Delivers : List Letter → List Known → Type 0
Delivers queued views =
    (reader : ℕ) × (seat : ℕ → Option ℕ) × (taken : List Letter)
    × ((pass : ℕ) (v : Known) → get_elem? views pass ≡ some v → Fits reader seat taken (taken ++ queued) pass v)

-- States the rule of a post with a claim, which is a statement that holds for each queued letter.
abbrev pub DeliversOnly : (Letter → Type 0) → List Letter → List Known → Type 0
DeliversOnly Is queued views = Delivers queued views × All Is queued
