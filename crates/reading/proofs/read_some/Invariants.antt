-- A read that a signal interrupted took nothing.
use Rattle.std.specs.Io.KnownBytes.{Keeps}
use Rattle.reading.proofs.read_some.Given as goal

abbrev pub invariant-tries : goal.invariant-tries
invariant-tries g l = Keeps (g.R.Read.remaining l.initial.from) (g.R.Read.remaining l.from)
