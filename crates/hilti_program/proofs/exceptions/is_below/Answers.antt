use Rattle.std.proofs.Common.{◌≡◌, ◌∙◌, refl, arith, Some}
use Rattle.std.proofs.lemmas.Bool.{false≢true}
use Rattle.hilti_typing.specs.Exceptions.{parent_of}
use Rattle.hilti_program.proofs.Chains.{here, stops, goes_on, parent_at}
use Rattle.hilti_program.proofs.exceptions.is_below.Goals as goal

-- the parent of the exception that was come to
abbrev parent_is : (c : goal.In-Some) → parent_of c.args.exceptions.now c.loop-at.at ≡ Some c.in-Some.parent
parent_is c = parent_at c.args.exceptions.now c.loop-at.at _ c.loop-at.invariant.0 ∙ c.in-Some.is

pub loop-at-smaller : goal.loop-at-smaller
loop-at-smaller c = c.requires.tree.parent_before c.loop-at.at c.in-Some.parent (parent_is c)

pub loop-at-preserved : goal.loop-at-preserved
loop-at-preserved c =
    let smaller = c.requires.tree.parent_before c.loop-at.at c.in-Some.parent (parent_is c) in
    let same = goes_on c.args.exceptions.now c.loop-at.at c.in-Some.parent c.args.other (parent_is c) c.loop-at-test.true in (
      omega (arith, smaller, c.loop-at.invariant.0),
      ((λ below. same.0 (c.loop-at.invariant.1.0 below)), (λ below. c.loop-at.invariant.1.1 (same.1 below))),
    )

pub returns-in-None : goal.returns-in-None
returns-in-None c =
    let none = parent_at c.args.exceptions.now c.loop-at.at _ c.loop-at.invariant.0 ∙ c.in-None.is in (
      (λ e. absurd (false≢true e)),
      (λ below. absurd (stops c.args.exceptions.now c.loop-at.at c.args.other none c.loop-at-test.true (c.loop-at.invariant.1.0 below))),
    )

pub returns : goal.returns
returns c = (
  (λ _. c.loop-at.invariant.1.1 (here c.args.exceptions.now c.loop-at.at c.args.other c.loop-at-test.false)),
  (λ _. refl),
)
