mod SpanLemmas
