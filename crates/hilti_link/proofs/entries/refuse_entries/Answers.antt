use Rattle.std.proofs.Common.{◌∙◌, sym, ap, subst, cond, map, Some}
use Rattle.std.specs.List.{find, list_any}
use Rattle.std.specs.Option.{option_copied}
use Rattle.hilti_resolve.specs.Names.{first_of}
use Rattle.hilti_link.specs.Entries.{declares_packet, entry_refusal, no_packet}
use Rattle.hilti_link.specs.InTurn.{Answers}
use Rattle.hilti_link.proofs.Mains.{is_main, refused_of, none_found}
use Rattle.hilti_link.proofs.entries.refuse_entries.Goals as goal

pub returns-in-Some : goal.returns-in-Some
returns-in-Some c =
    let found = sym (ap option_copied c.in-Some.is) ∙ c.find_main.ensures ∙ ap (find is_main) c.as_slice.ensures in
    subst (Answers c.refuse_main.result)
    (ap (λ items. cond (list_any declares_packet items) (first_of (map entry_refusal items)) no_packet) c.as_slice-in-Some.ensures ∙ sym (refused_of c.args.modules.now (Some c.in-Some.main.now) found))
    c.refuse_main.ensures

pub returns-in-None : goal.returns-in-None
returns-in-None c =
    none_found c.args.modules.now c.no_packet.result (sym (ap option_copied c.in-None.is) ∙ c.find_main.ensures ∙ ap (find is_main) c.as_slice.ensures) c.no_packet.ensures
