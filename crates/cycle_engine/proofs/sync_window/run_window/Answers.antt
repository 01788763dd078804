use Rattle.std.proofs.Common.{◌≡◌, ℕ, [], ◌∷◌, ◌+◌, ◌++◌, ◌<◌, ◌≤◌, ◌||◌, All, drop, take, ◌-◌, false, true, length, vec_len, sym, ap, ◌∙◌, subst, arith}
use Rattle.std.proofs.Math.Seq.{drop-append_seam}
use Rattle.std.proofs.lemmas.Bool.{cases_lt}
use Rattle.profile.specs.Limits.{first_identifier}
use Rattle.bit_sets.specs.Sets.{has_bit, most_slots}
use Rattle.bit_sets.proofs.Shared.{has_bit-above}
use Rattle.cycle_engine.specs.Nodes.{heard_by}
use Rattle.cycle_engine.specs.SyncWindow.{back_to_back, due_frames, is_among}
use Rattle.cycle_engine.proofs.BackToBack.{Follows-due, behind-front, due-ids}
use Rattle.node_model.specs.Node.{IsNode}
use Rattle.node_model.specs.Window.{IsInWindow}
use Rattle.cycle_engine.proofs.BySlots.{among-all}
use Rattle.cycle_engine.proofs.One.{one_alone}
use Rattle.cycle_engine.proofs.Sent.{sent-none, sent-slots}
use Rattle.cycle_engine.proofs.sync_window.run_window.Goals as goal

pub send_slots-left-requires-clause-due : goal.send_slots-left-requires-clause-due
send_slots-left-requires-clause-due c = λ slot within has. sym (c.due_slots-due.ensures.slots slot within) ∙ has

pub send_slots-left-requires-clause-room : goal.send_slots-left-requires-clause-room
send_slots-left-requires-clause-room c = grind (arith, vec_len)

pub hear_slots-requires : goal.hear_slots-requires
hear_slots-requires c =
    let nodes = c.args.node.now.state ∷ [] in
    let old = c.args.out.now.items in
    let sent = back_to_back (due_frames nodes) c.args.from c.args.until in
    let put = c.send_slots-left.ensures.sent ∙ ap (λ fs. old ++ back_to_back fs c.args.from c.args.until) (among-all nodes c.due_slots-due.result c.due_slots-due.ensures.slots) in
    let same = behind-front old sent c.as_slice.result.now (length c.as_slice-before.result.now) (c.as_slice.ensures.value ∙ put) (ap length c.as_slice-before.ensures.value) in
    let start = length c.as_slice-before.result.now in
    let frames = take (length c.as_slice.result.now - start) (drop start c.as_slice.result.now) in
    let behind : drop (length old) c.send_slots-left.new.out.items ≡ frames = ap (drop (length old)) put ∙ drop-append_seam old sent ∙ sym same in
    let all : (slot : ℕ) → has_bit c.due_slots-due.result slot ≡ (is_among slot frames || has_bit c.send_slots-left.result slot) = λ slot. c.send_slots-left.ensures.left slot ∙ ap (λ fs. is_among slot fs || has_bit c.send_slots-left.result slot) behind in
    let apart : (slot : ℕ) → has_bit c.send_slots-left.result slot ≡ true → is_among slot frames ≡ false = λ slot has. ap (is_among slot) (sym behind) ∙ c.send_slots-left.ensures.apart slot has in
    record {
      slots = record {
        all = subst (All (λ one. (first_identifier ≤ one.frame.identifier) × (one.frame.identifier < first_identifier + most_slots))) (sym same)
            (due-ids nodes c.args.from c.args.until);
        each = grind (arith, cases_lt, sent-slots, sent-none, has_bit-above);
      };
    }

pub returns : goal.returns
returns c =
    let nodes = c.args.node.now.state ∷ [] in
    let sent = back_to_back (due_frames nodes) c.args.from c.args.until in
    let put = c.send_slots-left.ensures.sent ∙ ap (λ fs. c.args.out.now.items ++ back_to_back fs c.args.from c.args.until) (among-all nodes c.due_slots-due.result c.due_slots-due.ensures.slots) in
    let same = behind-front c.args.out.now.items sent c.as_slice.result.now (length c.as_slice-before.result.now) (c.as_slice.ensures.value ∙ put) (ap length c.as_slice-before.ensures.value) in
    record {
      sent = record {
        frames = sent;
        appended = put;
        heard = ap (λ node. node ∷ []) c.hear_slots.ensures.heard ∙ ap (λ fs. heard_by fs nodes) same;
        no_trigger = λ k d within. omega (arith, (due-ids nodes c.args.from c.args.until k d within).0);
        follows = λ layout. Follows-due layout c.args.from c.args.until nodes (one_alone IsNode c.args.node.now.state c.requires.node) (one_alone (IsInWindow c.args.from c.args.until) c.args.node.now.state c.requires.window);
      };
      capacity = c.send_slots-left.ensures.capacity;
      spare = c.hear_slots.ensures.spare;
    }
