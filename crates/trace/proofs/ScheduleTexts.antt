-- What some texts mean as schedules, computed in the kernel.
use Rattle.std.specs.Prelude.{◌≡◌, ℕ, [], ◌∷◌, ◌++◌, replicate, codes, Ok, Err, refl}
use Rattle.text.specs.Number.{decimal_of}
use Rattle.world.specs.declared.schedule.Repeat.{Repeat}
use Rattle.trace.specs.declared.fault.TraceFault.TheVariants.{Line}
use Rattle.trace.specs.declared.fault.TraceError.TheVariants.{At}
use Rattle.trace.specs.Schedules.{number_within, schedule_told}

entry : ℕ → ℕ → Repeat
entry general times = record { general = general; times = times }

-- A line has entries and repeated entries. The last line need not end with a line feed.
told : schedule_told (codes "3*4096 3 12") ≡ Ok ((entry 3 4096 ∷ entry 3 1 ∷ entry 12 1 ∷ []) ∷ [])
unfolding entry schedule_told number_within decimal_of
told = refl

-- An empty text has no line, and a line may be empty.
none : schedule_told [] ≡ Ok []
unfolding entry schedule_told
none = refl

later : schedule_told (10 ∷ 10 ∷ codes "4*15" ++ 10 ∷ []) ≡ Ok ([] ∷ [] ∷ (entry 4 15 ∷ []) ∷ [])
unfolding entry schedule_told number_within decimal_of
later = refl

-- There may be five lines but not six. A fault in an earlier line is reported first.
five : schedule_told (replicate 5 10) ≡ Ok (replicate 5 [])
unfolding schedule_told
five = refl

six : schedule_told (replicate 6 10) ≡ Err (At Line 6)
unfolding schedule_told
six = refl

fifth : schedule_told (replicate 4 10 ++ 48 ∷ 48 ∷ 10 ∷ 10 ∷ []) ≡ Err (At Line 5)
unfolding schedule_told number_within decimal_of
fifth = refl

-- Not allowed are a general above 12, more than 4,096 repetitions or none, and a part that is no entry.
thirteen : schedule_told (codes "13") ≡ Err (At Line 1)
unfolding schedule_told number_within decimal_of
thirteen = refl

too_often : schedule_told (codes "3*4097") ≡ Err (At Line 1)
unfolding schedule_told number_within decimal_of
too_often = refl

never : schedule_told (codes "3*0") ≡ Err (At Line 1)
unfolding schedule_told number_within decimal_of
never = refl

twice : schedule_told (codes "3*2*2") ≡ Err (At Line 1)
unfolding schedule_told number_within decimal_of
twice = refl

two_spaces : schedule_told (codes "3  4") ≡ Err (At Line 1)
unfolding schedule_told number_within decimal_of
two_spaces = refl
