use Rattle.std.proofs.Common.{◌∙◌, sym, ap, position}
use Rattle.std.proofs.lemmas.Result.{on_ok_weaker, on_err_weaker}
use Rattle.css_outside.specs.Spaces.{held_in, is_named, room_in}
use Rattle.css_outside.proofs.Spaces.{held_kept, held_more, room_kept, room_widened, room_set_other, room_more, room_more_other}
use Rattle.css_outside.proofs.memory.spaces.widen_under.Goals as goal

pub returns-in-Some-clause-held : goal.returns-in-Some-clause-held
returns-in-Some-clause-held c =
    let place = sym (c.place.ensures ∙ ap (position (is_named c.args.name.now)) c.as_slice.ensures.value) ∙ c.in-Some.is in
    held_kept c.args.spaces.now.items c.args.name.now c.in-Some.at c.widen.new.self c.index_mut.result.now place c.index_mut.ensures.value c.widen.ensures.name c.widen.ensures.held

pub returns-in-Some-clause-room : goal.returns-in-Some-clause-room
returns-in-Some-clause-room c =
    let place = sym (c.place.ensures ∙ ap (position (is_named c.args.name.now)) c.as_slice.ensures.value) ∙ c.in-Some.is in
    on_ok_weaker c.widen.result (room_widened c.args.spaces.now.items c.args.name.now c.in-Some.at c.widen.new.self c.index_mut.result.now place c.index_mut.ensures.value c.widen.ensures.name c.args.bytes) c.widen.ensures.room

pub returns-in-Some-clause-others : goal.returns-in-Some-clause-others
returns-in-Some-clause-others c =
    let place = sym (c.place.ensures ∙ ap (position (is_named c.args.name.now)) c.as_slice.ensures.value) ∙ c.in-Some.is in
    room_set_other c.args.spaces.now.items c.args.name.now c.in-Some.at c.widen.new.self c.index_mut.result.now place c.index_mut.ensures.value c.widen.ensures.name

pub returns-in-Some-clause-err : goal.returns-in-Some-clause-err
returns-in-Some-clause-err c =
    let place = sym (c.place.ensures ∙ ap (position (is_named c.args.name.now)) c.as_slice.ensures.value) ∙ c.in-Some.is in
    on_err_weaker c.widen.result (room_kept c.args.spaces.now.items c.args.name.now c.in-Some.at c.widen.new.self c.index_mut.result.now place c.index_mut.ensures.value c.widen.ensures.name) c.widen.ensures.err

pub returns-in_ok-push-in-None-clause-held : goal.returns-in_ok-push-in-None-clause-held
returns-in_ok-push-in-None-clause-held c = λ other.
    ap (λ spaces. held_in spaces other) c.in_ok-push-in-None.ensures.items ∙ held_more c.args.spaces.now.items c.in_ok-new-in-None.field-0 c.in_ok-new-in-None.ensures.held other

pub returns-in_ok-push-in-None-clause-room : goal.returns-in_ok-push-in-None-clause-room
returns-in_ok-push-in-None-clause-room c =
    let none = sym (c.place.ensures ∙ ap (position (is_named c.args.name.now)) c.as_slice.ensures.value) ∙ c.in-None.is in
    ap (λ spaces. room_in spaces c.args.name.now) c.in_ok-push-in-None.ensures.items ∙ room_more c.args.spaces.now.items c.args.name.now c.in_ok-new-in-None.field-0 none c.in_ok-new-in-None.ensures.name c.args.bytes c.in_ok-new-in-None.ensures.room

pub returns-in_ok-push-in-None-clause-others : goal.returns-in_ok-push-in-None-clause-others
returns-in_ok-push-in-None-clause-others c = λ other ne.
    let none = sym (c.place.ensures ∙ ap (position (is_named c.args.name.now)) c.as_slice.ensures.value) ∙ c.in-None.is in
    ap (λ spaces. room_in spaces other) c.in_ok-push-in-None.ensures.items ∙ room_more_other c.args.spaces.now.items c.args.name.now c.in_ok-new-in-None.field-0 none c.in_ok-new-in-None.ensures.name other ne
