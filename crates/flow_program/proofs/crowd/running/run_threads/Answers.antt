use Rattle.std.proofs.Common.{arith, ◌*◌, ◌<◌, sym, subst, ◌∙◌, get_or, vec_items, vec_len}
use Rattle.flow_program.specs.Crowds.{HasSent, HasTaken}
use Rattle.flow_program.proofs.EndLemmas.{sent_as, taken_as}
use Rattle.flow_program.proofs.PlaceLemmas.{one_of}
use Rattle.flow_program.proofs.crowd.running.run_threads.Goals as goal

pub returns : goal.returns
returns g c =
    let n = c.from.result in let all = c.emitted.result in
    let es = vec_items c.args.callers.emitters in let rs = vec_items c.args.callers.readers in
    let emitting = c.in_ok-emitting.emitting in let reading = c.in_ok-reading.reading in
    let will_emit = c.in_ok-emitting.ensures in let will_read = c.in_ok-reading.ensures in let joined = c.join_emitters.ensures in let read = c.join_subscribers.ensures in
    let es-after = vec_items c.join_emitters.new.emitters in let rs-after = vec_items c.join_subscribers.new.readers in let gots = vec_items c.join_subscribers.new.got in
    let ne = c.args.callers.emitters.ok.0 in let nr = c.args.callers.readers.ok.0 in
    record {
      emitters = sym c.join_emitters.new.emitters.ok.0 ∙ joined.count ∙ will_emit.count ∙ ne;
      subscribers = sym c.join_subscribers.new.readers.ok.0 ∙ read.readers ∙ will_read.count ∙ nr;
      lists = sym c.join_subscribers.new.got.ok.0 ∙ read.lists ∙ will_read.count ∙ nr;
      sent = λ i d e l.
          let low : i < vec_len c.args.callers.emitters = omega (arith, ne, l) in let there : i < vec_len emitting = (let m = will_emit.count in omega (arith, m, low)) in
          let t = one_of (vec_items emitting) (let o = emitting.ok.0 in omega (arith, o, there)) in let after = get_or es-after i d in
          subst (λ v. HasSent (i * v) v (get_or es i e) after) c.from.ensures
          (sent_as (get_or es i e) (i * n) n (get_or (vec_items emitting) i t).promise after (will_emit.promised i t e low) (joined.sent i d t there));
      taken = λ i d r v l.
          let low : i < vec_len c.args.callers.readers = omega (arith, nr, l) in let there : i < vec_len reading = (let m = will_read.count in omega (arith, m, low)) in
          let t = one_of (vec_items reading) (let o = reading.ok.0 in omega (arith, o, there)) in let after = get_or rs-after i d in let got = (get_or gots i v).items in
          subst (λ m. HasTaken m (get_or rs i r) after got) c.emitted.ensures
          (taken_as (get_or rs i r) all (get_or (vec_items reading) i t).promise after got (will_read.promised i t r low) (read.taken i d v t there));
    }
