use Rattle.std.proofs.Common.{◌∙◌, sym, ap, ◌∷◌, [], ◌++◌}
use Rattle.std.proofs.lemmas.List.Sums.{fold-append}
use Rattle.hilti_keys.specs.Hashes.{hash_from, hash_step, key_bytes}
use Rattle.hilti_keys.proofs.Parts.{address_bytes, net_bytes}
use Rattle.hilti_keys.proofs.hashes.+taking_key.Goals as goal

pub taking_key-returns-in-Addr : goal.taking_key-returns-in-Addr
taking_key-returns-in-Addr t c =
    c.taking_bytes.ensures
    ∙ ap (hash_from c.args.hash)
    (c.to_be_bytes.ensures ∙ sym (ap key_bytes c.in-Addr.is ∙ address_bytes c.in-Addr.address))

pub taking_key-returns-in-Net : goal.taking_key-returns-in-Net
taking_key-returns-in-Net t c =
    let bytes = c.to_be_bytes-in-Net.result in
    let last = c.in-Net.length ∷ [] in
    c.taking_byte-in-Net.ensures
    ∙ ap (λ hash. hash_step hash c.in-Net.length) c.taking_bytes-in-Net.ensures
    ∙ sym (fold-append hash_step c.args.hash bytes last)
    ∙ ap (hash_from c.args.hash)
    (ap (λ front. front ++ last) c.to_be_bytes-in-Net.ensures
    ∙ sym (ap key_bytes c.in-Net.is ∙ net_bytes c.in-Net.address c.in-Net.length))
