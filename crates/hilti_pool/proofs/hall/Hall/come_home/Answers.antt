use Rattle.std.proofs.Common.{rules, ap, ◌∙◌, ◌==◌, not, filter}
use Rattle.std.proofs.lemmas.Fn.{filter_same}
use Rattle.hilti_pool.proofs.hall.Hall.come_home.Goals as goal

pub returns : goal.returns
returns g c = record {
  faces = c.arrive.ensures.faces;
  seats = c.arrive.ensures.seats;
  mail = c.arrive.ensures.mail;
  resting = c.arrive.ensures.resting;
  roll = c.arrive.ensures.roll;
  outs = filter_same _ _ _ (λ x b f' k. search rules) _ _ c.retain.ensures.filtered ∙ ap (λ v. filter (λ away. not (away.worker == c.args.worker)) v.items) c.arrive.ensures.outs;
}
