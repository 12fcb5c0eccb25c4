use Rattle.std.proofs.Common.{◌≡◌, [], drop, map}
use denote.Shadow.{shadow}
use denote.Text.{Utf8}
use Rattle.cli_report.specs.Nearest.{distance, nearest}
use Rattle.cli_report.proofs.nearest_name.near.Given as goal

abbrev pub invariant-loop-name : goal.invariant-loop-name
invariant-loop-name l = record {
  text : shadow (Utf8 l.best);
  counted : l.least ≡ distance l.word l.best;
  goes_on : nearest l.word l.best (map (λ name. name.now) (drop l.name-index l.names)) ≡ nearest l.word [] (map (λ name. name.now) l.names);
}
