use Rattle.ht_sample.specs.Samples.{read_at, IsSampleBasis, SampleWords}
use Rattle.ht_sample.proofs.ImageLaws.{order_within, images_sample}
use Rattle.ht_sample.proofs.SampleLaws.{sample_made}
use Rattle.ht_sample.proofs.elements.sample.Goals as goal

pub words_at-requires : goal.words_at-requires
words_at-requires c = rw (c.as_slice.ensures, c.words.ensures.words, c.as_slice-2.ensures.value, c.in_ok-order.ensures) (order_within c.grown-2.new.draws.state c.in_ok-second.second.words c.in_ok-second.ensures.basis.size)

pub elements-requires-clause-words : goal.elements-requires-clause-words
elements-requires-clause-words c = rw (c.as_slice-3.ensures, c.words-2.ensures.words) c.in_ok-first.ensures.basis

pub elements-requires-clause-images : goal.elements-requires-clause-images
elements-requires-clause-images c =
    rw (c.as_slice-4.ensures, c.in_ok-images.ensures, c.as_slice.ensures, c.words.ensures.words, c.as_slice-2.ensures.value, c.in_ok-order.ensures)
    (images_sample c.in-Ok.shape c.grown-2.new.draws.state c.in_ok-second.second.words c.in_ok-second.ensures.basis)

pub returns : goal.returns
returns c =
    let D = c.in_ok-first.first.words in
    let E = c.in_ok-second.second.words in
    let shape = c.in-Ok.shape in
    let order = c.in_ok-order.order.items in
    let words : SampleWords shape c.args.number D E order = record {
      first_state = c.grown.new.draws.state;
      second_state = c.grown-2.new.draws.state;
      first = c.in_ok-first.ensures.grown;
      second = c.in_ok-second.ensures.grown;
      order_is = c.in_ok-order.ensures;
    } in
    let images : IsSampleBasis shape (read_at E order) = rw c.in_ok-order.ensures (images_sample shape c.grown-2.new.draws.state E c.in_ok-second.ensures.basis) in
    let a = rw (c.as_slice-3.ensures, c.words-2.ensures.words) at c.elements.ensures.a in
    let h = rw (c.as_slice-3.ensures, c.words-2.ensures.words, c.as_slice-4.ensures, c.in_ok-images.ensures, c.as_slice.ensures, c.words.ensures.words, c.as_slice-2.ensures.value) at c.elements.ensures.h in
    let d = rw (c.as_slice-4.ensures, c.in_ok-images.ensures, c.as_slice.ensures, c.words.ensures.words, c.as_slice-2.ensures.value) at c.elements.ensures.c in
    sample_made c.elements.result shape c.args.number D E order c.in-Ok.ensures.value.0 c.in-Ok.ensures.value.1 words c.in_ok-first.ensures.basis images c.elements.ensures.shapes a h d
