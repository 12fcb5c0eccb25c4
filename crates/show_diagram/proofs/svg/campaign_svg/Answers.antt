use Rattle.std.proofs.Common.{◌∙◌, ap}
use Rattle.std.specs.String.{string_bytes}
use Rattle.show_diagram.proofs.PictureLemmas.{picture_whole}
use Rattle.show_diagram.specs.Lists.{with_rows}
use Rattle.show_diagram.proofs.svg.campaign_svg.Goals as goal

pub returns : goal.returns
returns g c =
    picture_whole (g.H.Heard.seen c.args.table.now) c.args.chronicle.now c.scenario-scenario.result.now c.accesses-accesses.result.now c.in_ok-strokes.strokes.items c.in_ok-drawn.drawn.items
    c.as_slice-2.result.now c.as_slice-3.result.now c.as_slice-4.result.now c.as_slice-5.result.now c.as_slice-6.result.now c.as_slice-7.result.now
    c.generals-generals.result c.bound-rounds.result c.order.result c.in_ok-wide.wide c.top_of-bottom.result c.foot_height.result c.marks-marks.result c.is_cut-is_cut.result
    (string_bytes c.in_ok-text.text) (string_bytes c.put_box.new.out) (string_bytes c.put_head.new.out) (string_bytes c.put_heads.new.out) (string_bytes c.put_bands.new.out) (string_bytes c.put_mores.new.out)
    (string_bytes c.put_foot.new.out) (string_bytes c.push_str.new.self)
    c.scenario-scenario.ensures c.accesses-accesses.ensures c.order.ensures c.in_ok-strokes.ensures
    (c.in_ok-drawn.ensures ∙ ap with_rows c.as_slice.ensures.value) c.as_slice-2.ensures.value c.as_slice-3.ensures.value c.as_slice-4.ensures.value c.as_slice-5.ensures.value
    c.as_slice-6.ensures.value c.as_slice-7.ensures.value
    c.generals-generals.ensures.same c.bound-rounds.ensures.same c.in_ok-wide.ensures.value c.top_of-bottom.ensures.value c.marks-marks.ensures c.is_cut-is_cut.ensures c.foot_height.ensures.value
    (c.in_ok-text.ensures.ok ∙ c.start.ensures) c.in_ok-put_box.ensures c.in_ok-put_head.ensures c.in_ok-put_heads.ensures c.in_ok-put_bands.ensures c.in_ok-put_mores.ensures c.in_ok-put_foot.ensures c.in_ok-push_str.ensures.bytes
