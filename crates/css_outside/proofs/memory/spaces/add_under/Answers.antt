use Rattle.std.proofs.Common.{◌∙◌, sym, ap, position, nat_le, length}
use Rattle.std.proofs.Math.ListN.{set}
use Rattle.std.proofs.lemmas.List.{set-get_or}
use Rattle.std.proofs.lemmas.Result.{on_ok_weaker, on_err_weaker}
use Rattle.css_outside.specs.Rooms.{fits}
use Rattle.css_outside.specs.Spaces.{is_named}
use Rattle.css_outside.proofs.Spaces.{added, begun, room_at, room_none, room_taken}
use Rattle.css_outside.proofs.memory.spaces.add_under.Goals as goal

pub returns-in-Some-clause-answer : goal.returns-in-Some-clause-answer
returns-in-Some-clause-answer c =
    let place = sym (c.place.ensures ∙ ap (position (is_named c.args.name.now)) c.as_slice.ensures.value) ∙ c.in-Some.is in
    c.add.ensures.answer ∙ ap (λ space. nat_le (length c.args.piece.now) space.room) c.index_mut.ensures.value ∙ ap (λ room. fits room (length c.args.piece.now)) (sym (room_at c.args.spaces.now.items c.args.name.now c.in-Some.at c.index_mut.result.now place))

pub returns-in-Some-clause-ok : goal.returns-in-Some-clause-ok
returns-in-Some-clause-ok c =
    let place = sym (c.place.ensures ∙ ap (position (is_named c.args.name.now)) c.as_slice.ensures.value) ∙ c.in-Some.is in
    on_ok_weaker c.add.result (added c.args.spaces.now.items c.args.name.now c.in-Some.at c.add.new.self c.index_mut.result.now place c.index_mut.ensures.value c.add.ensures.name c.args.piece.now) c.add.ensures.held

pub returns-in-Some-clause-begun : goal.returns-in-Some-clause-begun
returns-in-Some-clause-begun c =
    let place = sym (c.place.ensures ∙ ap (position (is_named c.args.name.now)) c.as_slice.ensures.value) ∙ c.in-Some.is in
    on_ok_weaker c.add.result (begun c.args.spaces.now.items c.args.name.now c.in-Some.at c.add.new.self c.index_mut.result.now place c.index_mut.ensures.value c.add.ensures.name c.args.piece.now) c.add.ensures.held

pub returns-in-Some-clause-room : goal.returns-in-Some-clause-room
returns-in-Some-clause-room c =
    let place = sym (c.place.ensures ∙ ap (position (is_named c.args.name.now)) c.as_slice.ensures.value) ∙ c.in-Some.is in
    on_ok_weaker c.add.result (room_taken c.args.spaces.now.items c.args.name.now c.in-Some.at c.add.new.self c.index_mut.result.now place c.index_mut.ensures.value c.add.ensures.name (length c.args.piece.now)) c.add.ensures.room

pub returns-in-Some-clause-err : goal.returns-in-Some-clause-err
returns-in-Some-clause-err c = on_err_weaker c.add.result (λ e. ap (set c.args.spaces.now.items c.in-Some.at) (e ∙ c.index_mut.ensures.value) ∙ set-get_or c.args.spaces.now.items c.in-Some.at c.index_mut.result.now) c.add.ensures.err

pub returns-in-None-clause-answer : goal.returns-in-None-clause-answer
returns-in-None-clause-answer c =
    let none = sym (c.place.ensures ∙ ap (position (is_named c.args.name.now)) c.as_slice.ensures.value) ∙ c.in-None.is in
    ap (λ room. fits room (length c.args.piece.now)) (sym (room_none c.args.spaces.now.items c.args.name.now none))
