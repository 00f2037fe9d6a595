-- `Sources::put_jump` meets its contract.
use Prim.Native.Nat.{◌+◌, ◌*◌, ◌<◌}
use lib.ListN.{length, get_or}
use mathlib.Core.Path.{◌≡◌, sym, ◌∙◌}
use native.Mathlib.Omega.{arith}
use Rattle.graph.proofs.States.{clocks_of, ceiling_of, small_of}
use Rattle.successors.specs.Words.{edge_word}
use Rattle.successors.proofs.Flags.{count_is}
use Rattle.successors.proofs.Tables.{jump_none, target_in, jump_puts}
use Rattle.successors.proofs.Words.{word_below, mask_is, target_is, guard_is}
use Rattle.successors.proofs.Sources.put_jump.Goals as goal
use Rattle.successors.proofs.Sources.put_jump.Goals.{Start, After-target}

-- the word that is read
word : (c : Start) → get_or c.args.self.now.words.now c.args.e 0 ≡ edge_word c.args.self.now.space.plan.now.model c.args.e
word c = c.args.self.now.spelled.are c.args.e c.requires.0

-- the state that the jump leads to
within : (c : After-target) → c.target.result * length c.args.self.now.space.table.now + c.reset_number-j.result < length c.args.self.now.allowed.now
within c =
    let s = c.args.self.now in
    let w = s.spelled.are c.args.e c.requires.0 in
    target_in s.given.lawful s.given.flags (count_is s.given.lawful s.given.listed) c.requires.0 c.requires.1
    (c.mask.ensures ∙ mask_is s.space.plan.now.model s.given.lawful c.args.e w)
    (c.reset_number-j.ensures _ _ (clocks_of s.space.plan.now.model s.given.lawful) (ceiling_of s.space.plan.now.model s.given.lawful) s.given.indexed c.requires.1.known)
    (c.target.ensures ∙ target_is s.space.plan.now.model s.given.lawful c.args.e w)

pub bounds-self-e : goal.bounds-self-e
bounds-self-e c = omega (arith, c.args.self.now.spelled.room)

pub opens-requires : goal.opens-requires
opens-requires c = let s = c.args.self.now in word_below s.space.plan.now.model s.given.lawful c.args.e (word (goal.at.opens-requires c).Start)

pub reset_number-j-requires : goal.reset_number-j-requires
reset_number-j-requires c = let s = c.args.self.now in (small_of s.space.plan.now.model s.given.lawful c.args.g c.requires.1.known, s.given.indexed.long)

pub overflow_mul-target : goal.overflow_mul-target
overflow_mul-target c = omega (arith, within (goal.at.overflow_mul-target c).After-target)

pub overflow_add-target : goal.overflow_add-target
overflow_add-target c = omega (arith, within (goal.at.overflow_add-target c).After-target)

pub put-requires : goal.put-requires
put-requires c = (within (goal.at.put-requires c).After-target, c.requires.2)

pub returns-then-opens : goal.returns-then-opens
returns-then-opens c =
    let s = c.args.self.now in
    let w = s.spelled.are c.args.e c.requires.0 in
    jump_puts s.given.lawful s.given.flags (count_is s.given.lawful s.given.listed) c.requires.0 c.requires.1
    (c.mask.ensures ∙ mask_is s.space.plan.now.model s.given.lawful c.args.e w)
    (c.reset_number-j.ensures _ _ (clocks_of s.space.plan.now.model s.given.lawful) (ceiling_of s.space.plan.now.model s.given.lawful) s.given.indexed c.requires.1.known)
    (c.target.ensures ∙ target_is s.space.plan.now.model s.given.lawful c.args.e w)
    (sym (guard_is s.space.plan.now.model s.given.lawful c.args.e w c.requires.1.known) ∙ sym c.opens.ensures ∙ c.if-opens.true) c.put.ensures

pub returns : goal.returns
returns c =
    let s = c.args.self.now in
    let w = s.spelled.are c.args.e c.requires.0 in
    jump_none s.given.lawful s.given.flags (count_is s.given.lawful s.given.listed) c.requires.0 c.requires.1 c.args.targets.now c.args.n
    (sym (guard_is s.space.plan.now.model s.given.lawful c.args.e w c.requires.1.known) ∙ sym c.opens.ensures ∙ c.if-opens.false)
