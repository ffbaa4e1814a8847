use Rattle.hilti_grammar.specs.Runs.{Runs.FirstFails, Runs.Then, Runs.Follows}
use Rattle.hilti_syntax.proofs.Bounds.{module_within}
use Rattle.hilti_reader.proofs.Exits.{exits}
use Rattle.hilti_syntax.proofs.module_text.read_whole.Goals as goal

pub returns-in_err-skip : goal.returns-in_err-skip
returns-in_err-skip c =
    exits _ _ _ _ c.from_residual.result c.in_err-skip.field-0.0 c.from_residual.ensures.1
    (Follows (FirstFails c.in_err-skip.ensures.reads))

pub returns-in_err-name : goal.returns-in_err-name
returns-in_err-name c =
    exits _ _ _ _ c.from_residual-in_err-name.result c.in_err-name.field-0.0 c.from_residual-in_err-name.ensures.1
    (Follows (Then c.in_ok-skip.ensures.reads (FirstFails c.in_err-name.ensures.reads)))

pub returns-in_err-version : goal.returns-in_err-version
returns-in_err-version c =
    exits _ _ _ _ c.from_residual-in_err-version.result c.in_err-version.field-0.0 c.from_residual-in_err-version.ensures.1
    (Follows (Then c.in_ok-skip.ensures.reads (Then c.in_ok-name.ensures.reads (FirstFails c.in_err-version.ensures.reads))))

pub returns-in_err-skip-2 : goal.returns-in_err-skip-2
returns-in_err-skip-2 c =
    exits _ _ _ _ c.from_residual-in_err-skip-2.result c.in_err-skip-2.field-0.0 c.from_residual-in_err-skip-2.ensures.1
    (Follows (Then c.in_ok-skip.ensures.reads (Then c.in_ok-name.ensures.reads (Then c.in_ok-version.ensures.reads (FirstFails c.in_err-skip-2.ensures.reads)))))

pub returns-in_err-items : goal.returns-in_err-items
returns-in_err-items c =
    exits _ _ _ _ c.from_residual-in_err-items.result c.in_err-items.field-0.0 c.from_residual-in_err-items.ensures.1
    (Follows (Then c.in_ok-skip.ensures.reads (Then c.in_ok-name.ensures.reads (Then c.in_ok-version.ensures.reads (Then c.in_ok-skip-2.ensures.reads c.in_err-items.ensures.reads)))))

pub returns : goal.returns
returns c = Follows (Then c.in_ok-skip.ensures.reads (Then c.in_ok-name.ensures.reads (Then c.in_ok-version.ensures.reads (Then c.in_ok-skip-2.ensures.reads c.in_ok-items.ensures.reads))))

pub invariant_of-result : goal.invariant_of-result
invariant_of-result c = record {
  bounded = module_within c.in_ok-name.name c.in_ok-version.version c.in_ok-items.items c.args.cursor.now c.read_items.new.cursor 1048576 c.requires
      (Follows (Then c.in_ok-skip.ensures.reads (Then c.in_ok-name.ensures.reads (Then c.in_ok-version.ensures.reads (Then c.in_ok-skip-2.ensures.reads c.in_ok-items.ensures.reads)))));
}
