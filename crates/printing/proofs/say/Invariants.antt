-- The text's first `done` bytes are written.
use Rattle.std.proofs.Common.{length, ◌-◌, ◌≤◌, take}
use Rattle.std.specs.Io.KnownBytes.{Appends}
use Rattle.printing.proofs.say.Given as goal

abbrev pub invariant-loop-done : goal.invariant-loop-done
invariant-loop-done g l = record {
  in_bounds : l.done ≤ length l.fn.text;
  bytes : Appends (g.W.Write.contents l.fn.to) (g.W.Write.contents l.to) (take l.done l.fn.text);
}

abbrev pub decreases-loop-done : goal.decreases-loop-done
decreases-loop-done g l = length l.fn.text - l.done
