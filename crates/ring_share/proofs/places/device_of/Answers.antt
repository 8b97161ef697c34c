use Rattle.std.proofs.Common.{Some, ap, sym, ◌∙◌}
use Rattle.std.proofs.lemmas.Option.{get_or_from_slice_get}
use Rattle.ring_words.specs.declared.device.Device.{Device}
use Rattle.ring_share.specs.Want.{is_open}
use Rattle.ring_share.proofs.Bridge.{device_of, open_is}
use Rattle.ring_share.proofs.places.device_of.Goals as goal

pub returns : goal.returns
returns c =
    let stands = c.place_in.ensures.stands in
    let is = sym (get_or_from_slice_get c.args.devices.now c.place_in.result stands.device
    c.index-devices-place_in.result stands.at) ∙ sym c.index-devices-place_in.is in
    record {
      found = device_of c.args.devices.now c.requires.rise c.args.id c.place_in.result stands ∙ ap
          Some is;
      opens = ap is_open (sym is) ∙ sym (open_is c.args.devices.now c.requires.rise c.args.id
          c.place_in.result stands);
      named = sym (ap (λ (device : Device). device.id) is) ∙ stands.named;
    }
