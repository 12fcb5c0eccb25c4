use Rattle.std.proofs.Common.{◌∙◌}
use Rattle.std.specs.String.{string_bytes}
use Rattle.show_chains.proofs.PictureLemmas.{picture_whole}
use Rattle.show_chains.proofs.svg.signed_campaign_svg.Goals as goal

pub returns : goal.returns
returns c =
    picture_whole c.args.chronicle.now c.scenario-scenario.result.now c.accesses-accesses.result.now c.in_ok-strokes.strokes.items c.as_slice.result.now c.in_ok-drawn.drawn.items c.as_slice-2.result.now
    c.as_slice-6.result.now c.as_slice-7.result.now
    c.in_ok-plain.plain.items c.in_ok-shown.shown.items c.as_slice-3.result.now c.as_slice-4.result.now c.as_slice-5.result.now c.as_slice-8.result.now c.as_slice-9.result.now c.as_slice-10.result.now
    c.generals-generals.result c.bound-rounds.result c.in_ok-wide.wide c.top_of-bottom.result c.foot_height.result c.marks-marks.result c.is_cut-cut.result
    (string_bytes c.in_ok-text.text) (string_bytes c.put_box.new.out) (string_bytes c.put_head.new.out) (string_bytes c.put_heads.new.out) (string_bytes c.put_bands.new.out) (string_bytes c.put_mores.new.out)
    (string_bytes c.put_foot.new.out) (string_bytes c.push_str.new.self)
    c.scenario-scenario.ensures c.accesses-accesses.ensures c.in_ok-strokes.ensures c.as_slice.ensures.value c.in_ok-plain.ensures c.in_ok-drawn.ensures c.as_slice-2.ensures.value c.in_ok-shown.ensures
    c.as_slice-3.ensures.value c.as_slice-4.ensures.value c.as_slice-5.ensures.value c.as_slice-6.ensures.value c.as_slice-7.ensures.value c.as_slice-8.ensures.value c.as_slice-9.ensures.value c.as_slice-10.ensures.value
    c.generals-generals.ensures.same c.bound-rounds.ensures.same c.in_ok-wide.ensures.value c.top_of-bottom.ensures.value c.marks-marks.ensures c.is_cut-cut.ensures c.foot_height.ensures.value
    (c.in_ok-text.ensures.ok ∙ c.start.ensures) c.in_ok-put_box.ensures c.in_ok-put_head.ensures c.in_ok-put_heads.ensures c.in_ok-put_bands.ensures c.in_ok-put_mores.ensures c.in_ok-put_foot.ensures c.in_ok-push_str.ensures.bytes
