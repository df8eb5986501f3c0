mod FoundFacts
mod ProbeFacts
mod TraceFacts
