-- The texts of the units so far.
use Rattle.std.proofs.Common.{◌≡◌, map, string_bytes}
use Rattle.object.specs.Places.{name_in, texts_of}
use Rattle.object.proofs.unit_places.texts_of.Given as goal

abbrev pub invariant-loop-unit : goal.invariant-loop-unit
invariant-loop-unit l = map string_bytes l.texts.items ≡ texts_of (name_in l.object l.header) l.rows l.function.value l.unit
