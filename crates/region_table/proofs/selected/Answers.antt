-- `selected` meets its contract: the test is the definition's.
use mathlib.Core.Path.{refl, sym, ◌∙◌}
use Rattle.region_table.specs.Table.{chosen}
use Rattle.region_table.proofs.Gaps.{past_not_chosen}
use Rattle.region_table.proofs.selected.Goals as goal

pub returns-then-is_ranked_past : goal.returns-then-is_ranked_past
returns-then-is_ranked_past c = sym (past_not_chosen c.args.n c.args.ceiling c.args.p (sym c.is_ranked_past.ensures ∙ c.if-is_ranked_past.true))

pub returns : goal.returns
unfolding chosen
returns c = c.fits.ensures ∙ rw (c.limit-2.ensures, c.limit.ensures, c.unpack.ensures) refl
