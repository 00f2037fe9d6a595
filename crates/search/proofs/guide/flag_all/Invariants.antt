-- `search::guide::flag_all` meets its contract. The invariant: the states at the places from i on have their flags.
use Prim.Native.Nat.{ℕ}
use Rattle.search.proofs.Flags.{Flagging}
use Rattle.search.proofs.guide.flag_all.Given as goal

abbrev pub invariant-loop-i : goal.invariant-loop-i
invariant-loop-i g l = (start : ℕ) → Flagging (g.G.Guide.leads l.guide) (g.G.Guide.ends l.guide) start l.x l.initial.level l.queue l.end l.i l.level
