use Rattle.std.proofs.Common.{◌∙◌, ap, arith, length, refl, sym}
use Rattle.hilti_words.proofs.Finishing.{is_done, is_one, never_awaited, none_is, some_items}
use Rattle.hilti_words.proofs.reader.Reader.finish.Goals as goal
use Rattle.hilti_words.proofs.reader.Reader.finish.Goals.{then-is_some-via-then-is_some, then-is_some-via-else-is_some+then-is_empty, then-is_some-via-else-is_some+else-is_empty+then-len-gt-MODULES}

pub returns-then-is_some-clause-usage : goal.returns-then-is_some-clause-usage
returns-then-is_some-clause-usage c =
    λ _ words has is. let done = is_done words c.args.self has is in
    elim c.then-is_some.branch [
      | then-is_some-via-then-is_some w ↦ never_awaited c.args.self.awaited c.is_some.result w.if-is_some.true c.is_some.ensures done.nothing_awaited
      | then-is_some-via-else-is_some+then-is_empty w ↦ let none = ap length (w.is_empty.ensures.0 w.if-is_empty.true) in omega (arith, none, done.some)
      | then-is_some-via-else-is_some+else-is_empty+then-len-gt-MODULES w ↦ omega (arith, w.if-len-gt-MODULES.true, w.len.ensures, done.few)
    ]

pub returns-in_default-limits-clause-usage : goal.returns-in_default-limits-clause-usage
returns-in_default-limits-clause-usage c =
    λ _ words has is. c.in_default-limits.ensures.outside refl (is_done words c.args.self has is).range

pub returns-clause-command : goal.returns-clause-command
returns-clause-command c =
    λ words has. is_one words c.args.self c.in-Some-limits.limits c.in-Some.capture has
    (none_is c.args.self.awaited (sym c.is_some.ensures ∙ c.if-is_some.false)) c.in-Some.is
    (some_items c.args.self.modules c.is_empty.result c.if-is_empty.false c.is_empty.ensures.1) (omega arith)
    c.in-Some-limits.ensures.fuel c.in-Some-limits.ensures.calls c.in-Some-limits.ensures.workers
